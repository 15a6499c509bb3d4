-- A ready list after a join and after a leave.
use Rattle.std.proofs.Common.{◌≡◌, ℕ, zero, suc, ◌+◌, ◌<◌, ◌≤◌, Bool, true, false, cond, List, [], ◌∷◌, ◌++◌, length, set, get_or, replicate, Option, Some, refl, sym, ap, ◌∙◌, subst, arith, ⊎_elim}
use Rattle.std.specs.Prelude.{◌==◌, ◌||◌, not, filter, option_to_list}
use Rattle.std.specs.List.{list_any, IsDistinct, AllByRecursion}
use Rattle.std.proofs.lemmas.Bool.{cases_eq, cases_lt}
use Rattle.std.proofs.lemmas.Bool.Decides.{nat_tests}
use Rattle.std.proofs.lemmas.Cmp.{nat_eq_equiv}
use Rattle.std.proofs.lemmas.List.{get_or-set_same, get_or-set_other, length-set, get_or_past, get_or_default, length-append}
use Rattle.std.proofs.lemmas.List.Folds.{list_any-append}
use Rattle.std.proofs.lemmas.Map.Keys.{IsDistinct-push}
use Rattle.std.proofs.lemmas.Map.Steps.{length-le_from_distinct_below}
use Rattle.std.proofs.lemmas.Map.Views.{any-filter_same}
use Rattle.m3_base.proofs.ListLookups.{get_replicated}
use Rattle.m3_base.specs.Placement.State.{with_member}
use Rattle.m3_sched.specs.ReadyListView.{IsList}

-- ---- tests of a list

any_turned : (a : ℕ) (xs : List ℕ) → list_any (λ b. a == b) xs ≡ list_any (λ b. b == a) xs
any_turned a [] = refl
any_turned a (x ∷ xs) = ap (λ b. b || list_any (λ c. a == c) xs) (nat_eq_equiv.symm a x) ∙ ap (λ b. (x == a) || b) (any_turned a xs)

pub kept_whole : (a : ℕ) (xs : List ℕ) → list_any (λ b. b == a) xs ≡ false → filter (λ b. not (b == a)) xs ≡ xs
kept_whole a [] e = refl
kept_whole a (x ∷ xs) e = by_test (x == a) e (kept_whole a xs)
  where
    by_test : (b : Bool) → (b || list_any (λ c. c == a) xs) ≡ false → (list_any (λ c. c == a) xs ≡ false → filter (λ c. not (c == a)) xs ≡ xs)
        → cond (not b) (x ∷ filter (λ c. not (c == a)) xs) (filter (λ c. not (c == a)) xs) ≡ x ∷ xs
    by_test true e rest = absurd (cc)
    by_test false e rest = ap (λ ys. x ∷ ys) (rest e)

-- ---- lists in which nothing is twice

any_none : (a : ℕ) (xs : List ℕ) → AllByRecursion (λ b. (a == b) ≡ false) xs → list_any (λ b. b == a) xs ≡ false
any_none a [] all = refl
any_none a (x ∷ xs) all = ap (λ b. b || list_any (λ c. c == a) xs) (nat_eq_equiv.symm x a ∙ all.0) ∙ any_none a xs all.1

pub front_filtered : (a : ℕ) (xs : List ℕ) → IsDistinct ◌==◌ (a ∷ xs) → filter (λ b. not (b == a)) (a ∷ xs) ≡ xs
unfolding IsDistinct
front_filtered a xs d = ap (λ b. cond (not b) (a ∷ filter (λ c. not (c == a)) xs) (filter (λ c. not (c == a)) xs)) (nat_eq_equiv.refl a) ∙ kept_whole a xs (any_none a xs d.0)

all_filtered : (P : ℕ → Type 0) (p : ℕ → Bool) (xs : List ℕ) → AllByRecursion P xs → AllByRecursion P (filter p xs)
all_filtered P p [] all = tt
all_filtered P p (x ∷ xs) all = by_test (p x) (all_filtered P p xs all.1)
  where
    by_test : (b : Bool) → AllByRecursion P (filter p xs) → AllByRecursion P (cond b (x ∷ filter p xs) (filter p xs))
    by_test true rest = (all.0, rest)
    by_test false rest = rest

distinct_filtered : (p : ℕ → Bool) (xs : List ℕ) → IsDistinct ◌==◌ xs → IsDistinct ◌==◌ (filter p xs)
unfolding IsDistinct
distinct_filtered p [] d = tt
distinct_filtered p (x ∷ xs) d = by_test (p x) (distinct_filtered p xs d.1)
  where
    by_test : (b : Bool) → IsDistinct ◌==◌ (filter p xs) → IsDistinct ◌==◌ (cond b (x ∷ filter p xs) (filter p xs))
    by_test true rest = (all_filtered (λ y. (x == y) ≡ false) p xs d.0, rest)
    by_test false rest = rest

pub distinct_empty : (xs : List ℕ) → xs ≡ [] → IsDistinct ◌==◌ xs
unfolding IsDistinct
distinct_empty xs e = subst (IsDistinct ◌==◌) (sym e) tt

-- ---- an empty list

pub empty_list : (acts : List ℕ) (capacity : ℕ) (has : List Bool) → acts ≡ [] → 64 ≤ capacity → has ≡ replicate 64 false → IsList acts capacity has
empty_list acts capacity has e r f = record {
  room = r;
  count = ap length f;
  flags = λ a. ap (λ xs. get_or xs a false) f ∙ get_replicated 64 a false ∙ sym (ap (list_any (λ b. b == a)) e);
  distinct = distinct_empty acts e;
}

-- ---- a list of an activity more or less

module _ (acts : List ℕ) (capacity : ℕ) (has : List Bool) (is : IsList acts capacity has) (a : ℕ) (low : a < 64) where
  within : a < length has
  within = let e = is.count in omega arith

  pub in_list : (b : Bool) → get_or has a false ≡ b → list_any (λ c. c == a) acts ≡ b
  in_list b e = sym (is.flags a) ∙ e

  pub joins_not : get_or has a false ≡ true → with_member a acts ≡ acts
  joins_not e = ap (λ b. cond b acts (acts ++ a ∷ [])) (in_list true e)

  pub joins : get_or has a false ≡ false → with_member a acts ≡ acts ++ a ∷ []
  joins e = ap (λ b. cond b acts (acts ++ a ∷ [])) (in_list false e)

  pub leaves_not : get_or has a false ≡ false → filter (λ b. not (b == a)) acts ≡ acts
  leaves_not e = kept_whole a acts (in_list false e)

  module _ (none : get_or has a false ≡ false) where
    distinct_more : IsDistinct ◌==◌ (acts ++ a ∷ [])
    distinct_more = IsDistinct-push nat_eq_equiv acts a is.distinct (any_turned a acts ∙ in_list false none)

    flags_more : (b : ℕ) → get_or (set has a true) b false ≡ list_any (λ c. c == b) (acts ++ a ∷ [])
    flags_more b =
        ⊎_elim
        (λ (same : b ≡ a).
        let own : (a == b) ≡ true = grind (arith, nat_tests, same) in
        ap (λ i. get_or (set has a true) i false) same
        ∙ get_or-set_same has a true false within
        ∙ sym (list_any-append (λ c. c == b) acts (a ∷ []) ∙ ap (λ t. list_any (λ c. c == b) acts || (t || false)) own ∙ or_true (list_any (λ c. c == b) acts)))
        (λ (ne : b ≡ a → ⊥).
        let other : (a == b) ≡ false = grind (arith, nat_tests, ne) in
        get_or-set_other has a b true false ne
        ∙ is.flags b
        ∙ sym (list_any-append (λ c. c == b) acts (a ∷ []) ∙ ap (λ t. list_any (λ c. c == b) acts || (t || false)) other ∙ or_false (list_any (λ c. c == b) acts)))
        (cases_eq b a)
      where
        or_true : (t : Bool) → (t || true) ≡ true
        or_true true = refl
        or_true false = refl

        or_false : (t : Bool) → (t || false) ≡ t
        or_false true = refl
        or_false false = refl

    pub joined : IsList (acts ++ a ∷ []) capacity (set has a true)
    joined = record { room = is.room; count = length-set has a true ∙ is.count; flags = flags_more; distinct = distinct_more }

    below : (b : ℕ) → list_any (λ c. b == c) (acts ++ a ∷ []) ≡ true → b < 64
    below b e =
        ⊎_elim (λ lt. lt) (λ le.
        let past : get_or (set has a true) b false ≡ false = get_or_past (set has a true) b false (let n = length-set has a true ∙ is.count in omega arith) in
        let here : get_or (set has a true) b false ≡ true = flags_more b ∙ sym (any_turned b (acts ++ a ∷ [])) ∙ e in
        absurd (cc)) (cases_lt b 64)

    pub has_room : length acts < capacity
    has_room =
        let most : length (acts ++ a ∷ []) ≤ 64 = length-le_from_distinct_below (acts ++ a ∷ []) 64 distinct_more below in
        let n : length (acts ++ a ∷ []) ≡ length acts + 1 = length-append acts (a ∷ []) in
        let r = is.room in
        omega arith

  flags_less : (b : ℕ) → get_or (set has a false) b false ≡ list_any (λ c. c == b) (filter (λ c. not (c == a)) acts)
  flags_less b =
      ⊎_elim
      (λ (same : b ≡ a).
      ap (λ i. get_or (set has a false) i false) same
      ∙ get_or-set_same has a false false within
      ∙ sym (ap (λ i. list_any (λ c. c == i) (filter (λ c. not (c == a)) acts)) same ∙ any-filter_same (λ c. c == a) (λ c. not (c == a)) false (λ k e. ap not e) acts))
      (λ (ne : b ≡ a → ⊥).
      get_or-set_other has a b false false ne
      ∙ is.flags b
      ∙ sym (any-filter_same (λ c. c == b) (λ c. not (c == a)) true (λ k e. let other : (k == a) ≡ false = grind (arith, nat_tests, ne, e) in ap not other) acts))
      (cases_eq b a)

  pub left : IsList (filter (λ b. not (b == a)) acts) capacity (set has a false)
  left = record { room = is.room; count = length-set has a false ∙ is.count; flags = flags_less; distinct = distinct_filtered (λ b. not (b == a)) acts is.distinct }

-- ---- as the flags are read

pub read : (has : List Bool) (at a : ℕ) (r : Bool) → length has ≡ 64 → at ≡ a → a < 64 → r ≡ get_or has at r → get_or has a false ≡ r
read has at a r count same low was =
    get_or_default has a false r (omega (arith, count, low)) ∙ ap (λ i. get_or has i r) (sym same) ∙ sym was

-- the first of a queue is taken out
pub first_leaves : (old new : List ℕ) (r : Option ℕ) (a : ℕ) → IsDistinct ◌==◌ old → old ≡ option_to_list r ++ new → r ≡ Some a → new ≡ filter (λ b. not (b == a)) old
first_leaves old new r a d e f =
    let g : old ≡ a ∷ new = e ∙ ap (λ o. option_to_list o ++ new) f in
    sym (ap (filter (λ b. not (b == a))) g ∙ front_filtered a new (subst (IsDistinct ◌==◌) g d))
