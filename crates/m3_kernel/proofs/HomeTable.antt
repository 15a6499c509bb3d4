-- A home that is declared after the others.
use Rattle.std.proofs.Common.{◌≡◌, ℕ, zero, suc, ◌+◌, ◌<◌, ◌==◌, Bool, true, false, List, [], ◌∷◌, ◌++◌, set, get_or, replicate, Option, Some, None, refl, sym, ap, ◌∙◌, arith, add-one, ⊎_elim, subst}
use Rattle.std.specs.Prelude.{if◌then◌else◌, filter, is_some, length, nat_lt}
use Rattle.std.proofs.lemmas.List.{get_or-set_same, get_or-set_other, get_or_default, get_or_past, get_or-replicate, length-replicate, length-set}
use Rattle.std.proofs.lemmas.Bool.{cases_eq, cases_lt}
use Rattle.std.proofs.lemmas.Bool.Decides.{nat_tests}
use Rattle.m3_base.specs.Lists.Keyed as keyed
use Rattle.m3_base.specs.Ideal.State.{same_act}
use Rattle.m3_model.specs.Config.Site.{Home, home_act}
use Rattle.m3_kernel.specs.HomeTableView.{home_tile, capped, AreOfHomes, AreTiles, ArePrograms, AreCrowds, AreHomeTables}

abbrev pub found : ℕ → List Home → Option Home
found a xs = keyed.find home_act same_act a xs

-- an activity that isn't among the others is found at the end
pub found_last : (a : ℕ) (xs : List Home) (x : Home) → found a xs ≡ None → x.act ≡ a → found a (xs ++ x ∷ []) ≡ Some x
found_last a [] x h e = grind (arith, nat_tests)
found_last a (y ∷ ys) x h e = grind (arith, nat_tests, found_last a ys x)

pub found_before : (a : ℕ) (y : Home) (xs : List Home) (x : Home) → found a xs ≡ Some y → found a (xs ++ x ∷ []) ≡ found a xs
found_before a y [] x h = grind (arith, nat_tests)
found_before a y (z ∷ zs) x h = grind (arith, nat_tests, found_before a y zs x)

pub found_other : (a : ℕ) (xs : List Home) (x : Home) → (a ≡ x.act → ⊥) → found a (xs ++ x ∷ []) ≡ found a xs
found_other a [] x ne = grind (arith, nat_tests)
found_other a (y ∷ ys) x ne = grind (arith, nat_tests, found_other a ys x)

module _ {X : Type 0} (told : Option Home → X) (xs : List Home) (table : List X) (are : AreOfHomes told xs table) (x : Home) (within : x.act < 64) where
  pub table_with : found x.act xs ≡ None → AreOfHomes told (xs ++ x ∷ []) (set table x.act (told (Some x)))
  table_with none = record {
    count = length-set table x.act (told (Some x)) ∙ are.count;
    same = λ a.
        ⊎_elim
        (λ (e : a ≡ x.act).
        ap (λ b. get_or (set table x.act (told (Some x))) b (told None)) e
        ∙ get_or-set_same table x.act (told (Some x)) (told None) (omega (arith, are.count))
        ∙ ap told (sym (found_last x.act xs x none refl))
        ∙ ap (λ b. told (found b (xs ++ x ∷ []))) (sym e))
        (λ (ne : a ≡ x.act → ⊥).
        get_or-set_other table x.act a (told (Some x)) (told None) ne
        ∙ are.same a
        ∙ ap told (sym (found_other a xs x ne)))
        (cases_eq a x.act);
  }

  pub table_without : (y : Home) → found x.act xs ≡ Some y → AreOfHomes told (xs ++ x ∷ []) table
  table_without y some = record {
    count = are.count;
    same = λ a.
        ⊎_elim
        (λ (e : a ≡ x.act).
        are.same a
        ∙ ap (λ b. told (found b xs)) e
        ∙ ap told (sym (found_before x.act y xs x some))
        ∙ ap (λ b. told (found b (xs ++ x ∷ []))) (sym e))
        (λ (ne : a ≡ x.act → ⊥). are.same a ∙ ap told (sym (found_other a xs x ne)))
        (cases_eq a x.act);
  }

-- whether one is found, as the table of tiles has it
pub none_found : (o : Option Home) → home_tile o ≡ None → o ≡ None
none_found None e = refl
none_found (Some x) e = grind (arith, e)

pub one_found : (o : Option Home) (t : ℕ) → home_tile o ≡ Some t → (y : Home) × (o ≡ Some y)
one_found None t e = grind (arith, e)
one_found (Some x) t e = (x, refl)

-- ---- how many are at home on a tile

abbrev at_home : ℕ → List Home → List Home
at_home t xs = filter (λ x. x.tile == t) xs

one_more : (n : ℕ) → capped (n + 1) ≡ (if nat_lt (capped n) 2 then capped n + 1 else capped n)
one_more zero = refl
one_more (suc zero) = refl
one_more (suc (suc n)) = ap capped (add-one (suc (suc n)))

count_here : (t : ℕ) (xs : List Home) (x : Home) → t ≡ x.tile → length (at_home t (xs ++ x ∷ [])) ≡ length (at_home t xs) + 1
count_here t [] x e = grind (arith, nat_tests, e)
count_here t (y ∷ ys) x e = grind (arith, nat_tests, count_here t ys x e)

count_elsewhere : (t : ℕ) (xs : List Home) (x : Home) → (t ≡ x.tile → ⊥) → length (at_home t (xs ++ x ∷ [])) ≡ length (at_home t xs)
count_elsewhere t [] x ne = grind (arith, nat_tests, ne)
count_elsewhere t (y ∷ ys) x ne = grind (arith, nat_tests, count_elsewhere t ys x ne)

-- ---- as the tables are read

pub is_none_of : (r : Option ℕ) → is_some r ≡ false → r ≡ None
is_none_of None h = refl
is_none_of (Some t) h = grind arith

some_of : (r : Option ℕ) → is_some r ≡ true → (t : ℕ) × (r ≡ Some t)
some_of None h = grind arith
some_of (Some t) h = (t, refl)

module _ (tiles : List (Option ℕ)) (count : length tiles ≡ 64) (x : Home) (at : ℕ) (here : at ≡ x.act) (within : at < 64) (r : Option ℕ) (read : r ≡ get_or tiles at r) where
  read_at : (xs : List Home) → AreTiles xs tiles → home_tile (found x.act xs) ≡ r
  read_at xs are = sym (are.same x.act) ∙ get_or_default tiles x.act None r (omega (arith, count, within, here)) ∙ ap (λ i. get_or tiles i r) (sym here) ∙ sym read

  low : x.act < 64
  low = omega (arith, within, here)

  module _ {X : Type 0} (told : Option Home → X) (table : List X) where
    pub first_recorded : is_some r ≡ false → (xs : List Home) → AreTiles xs tiles → AreOfHomes told xs table → AreOfHomes told (xs ++ x ∷ []) (set table at (told (Some x)))
    first_recorded h xs tiles_are are =
        subst (λ (i : ℕ). AreOfHomes told (xs ++ x ∷ []) (set table i (told (Some x)))) (sym here) (
        table_with told xs table are x low (none_found (found x.act xs) (read_at xs tiles_are ∙ is_none_of r h))
        )

    pub other_recorded : is_some r ≡ true → (xs : List Home) → AreTiles xs tiles → AreOfHomes told xs table → AreOfHomes told (xs ++ x ∷ []) table
    other_recorded h xs tiles_are are =
        let s = some_of r h in
        let y = one_found (found x.act xs) s.0 (read_at xs tiles_are ∙ s.1) in
        table_without told xs table are x low y.0 y.1

module _ (t : ℕ) (xs : List Home) (x : Home) (is : x.tile ≡ t) (low : t < 16) (crowds : List ℕ) (are : AreCrowds xs crowds) where
  abbrev pub crowd_after : ℕ → ℕ
  crowd_after n = if nat_lt n 2 then n + 1 else n

  pub crowds_with : (n : ℕ) → n ≡ crowd_after (get_or crowds t 0) → AreCrowds (xs ++ x ∷ []) (set crowds t n)
  crowds_with n e = record {
    count = length-set crowds t n ∙ are.count;
    same = λ u.
        ⊎_elim
        (λ (e' : u ≡ t).
        ap (λ v. get_or (set crowds t n) v 0) e'
        ∙ get_or-set_same crowds t n 0 (omega (arith, are.count, low))
        ∙ e
        ∙ ap crowd_after (are.same t)
        ∙ sym (one_more (length (at_home t xs)))
        ∙ ap capped (sym (count_here t xs x (sym is)))
        ∙ ap (λ v. capped (length (at_home v (xs ++ x ∷ [])))) (sym e'))
        (λ (ne : u ≡ t → ⊥).
        get_or-set_other crowds t u n 0 ne
        ∙ are.same u
        ∙ ap capped (sym (count_elsewhere u xs x (λ e'. ne (e' ∙ is)))))
        (cases_eq u t);
  }

  pub crowds_without : nat_lt (get_or crowds t 0) 2 ≡ false → AreCrowds (xs ++ x ∷ []) crowds
  crowds_without many = record {
    count = are.count;
    same = λ u.
        ⊎_elim
        (λ (e' : u ≡ t).
        ap (λ v. get_or crowds v 0) e'
        ∙ sym (ap (λ b. if b then get_or crowds t 0 + 1 else get_or crowds t 0) many)
        ∙ ap crowd_after (are.same t)
        ∙ sym (one_more (length (at_home t xs)))
        ∙ ap capped (sym (count_here t xs x (sym is)))
        ∙ ap (λ v. capped (length (at_home v (xs ++ x ∷ [])))) (sym e'))
        (λ (ne : u ≡ t → ⊥).
        are.same u
        ∙ ap capped (sym (count_elsewhere u xs x (λ e'. ne (e' ∙ is)))))
        (cases_eq u t);
  }

-- ---- none

pub get_or_replicated : {X : Type 0} (n a : ℕ) (d : X) → get_or (replicate n d) a d ≡ d
get_or_replicated n a d =
    ⊎_elim (λ lt. get_or-replicate n a d d lt) (λ le. get_or_past (replicate n d) a d (omega (arith, length-replicate n d, le))) (cases_lt a n)

pub none_declared : (xs : List Home) (tiles : List (Option ℕ)) (programs : List Bool) (crowds : List ℕ)
    → xs ≡ [] → tiles ≡ replicate 64 None → programs ≡ replicate 64 false → crowds ≡ replicate 16 0 → AreHomeTables xs tiles programs crowds
none_declared xs tiles programs crowds no_homes no_tiles no_programs no_crowds =
    subst (λ (ys : List Home). AreHomeTables ys tiles programs crowds) (sym no_homes) (
    record {
      tiles_are = subst (λ (ts : List (Option ℕ)). AreTiles [] ts) (sym no_tiles) (record { count = length-replicate {A = Option ℕ} 64 None; same = λ a. get_or_replicated 64 a None });
      programs_are = subst (λ (ts : List Bool). ArePrograms [] ts) (sym no_programs) (record { count = length-replicate 64 false; same = λ a. get_or_replicated 64 a false });
      crowds_are = subst (λ (ts : List ℕ). AreCrowds [] ts) (sym no_crowds) (record { count = length-replicate {A = ℕ} 16 0; same = λ t. get_or_replicated 16 t 0 });
    })
