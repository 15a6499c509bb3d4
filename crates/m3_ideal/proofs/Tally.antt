-- The tables count the grants that aren't done.
use Rattle.std.proofs.Common.{◌≡◌, ℕ, zero, suc, ◌+◌, ◌-◌, ◌*◌, ◌<◌, ◌≤◌, Bool, true, false, cond, List, [], ◌∷◌, ◌++◌, length, Some, None, refl, sym, subst, ap, ◌∙◌, arith}
use Rattle.std.specs.Prelude.{◌==◌, ◌&&◌, ◌||◌, not, nat_lt, nat_le, slice_get, slice_set, slice_index_or, count_by, Option, if◌then◌else◌}
use Rattle.std.specs.List.{list_any}
use Rattle.std.proofs.lemmas.Bool.Decides.{nat_tests}
use Rattle.std.proofs.lemmas.List.Sums.{count_by-le-length, sum_by-cons, sum_by_push}
use Rattle.m3_base.specs.declared.order.GrantLine.{GrantLine}
use Rattle.m3_base.specs.declared.packet.Fresh.{Fresh}
use Rattle.m3_base.specs.Ideal.State.{Grant, parent_of, holder, holder_ep, is_done, is_number, is_child}
use Rattle.m3_base.specs.Ideal.GrantRules.{holds_at, is_open_child, new_grant}
use Rattle.m3_base.specs.Lists.Counting.{one}
use Rattle.m3_ideal.specs.Tally.{IsTallied, place_of, raised_at, lowered_at, held_raised, held_lowered, under_raised, under_lowered, MayRaise, MayLower, IsParent, IsFew, IsSome_under}
use Rattle.m3_base.proofs.ListLookups.{length_pushed}

-- ---- counts

zero_plus : (n : ℕ) → 0 + n ≡ n
zero_plus n = omega arith

count_cons : {X : Type 0} (p : X → Bool) (x : X) (xs : List X) → count_by p (x ∷ xs) ≡ one (p x) + count_by p xs
count_cons p x xs = sum_by-cons (λ y. cond (p y) 1 0) x xs

count_push : {X : Type 0} (p : X → Bool) (xs : List X) (x : X) → count_by p (xs ++ x ∷ []) ≡ count_by p xs + one (p x)
count_push p xs x = sum_by_push (λ y. cond (p y) 1 0) xs x

count_set : {X : Type 0} (p : X → Bool) (xs : List X) (i : ℕ) (x y : X) → slice_get xs i ≡ Some x → count_by p (slice_set xs i y) + one (p x) ≡ count_by p xs + one (p y)
count_set p [] i x y h = absurd cc
count_set p (z ∷ xs) zero x y h =
    let e : z ≡ x = cc in
    let f : one (p z) ≡ one (p x) = ap (λ w. one (p w)) e in
    let g = count_cons p y xs in
    let k = count_cons p z xs in
    omega arith
count_set p (z ∷ xs) (suc i) x y h =
    let f = count_set p xs i x y h in
    let g = count_cons p z (slice_set xs i y) in
    let k = count_cons p z xs in
    omega arith

any_count : {X : Type 0} (p : X → Bool) (xs : List X) → nat_lt 0 (count_by p xs) ≡ list_any p xs
any_count p [] = refl
any_count p (x ∷ xs) = ap (nat_lt 0) (count_cons p x xs) ∙ by_test (p x) (any_count p xs)
  where
    by_test : (b : Bool) → nat_lt 0 (count_by p xs) ≡ list_any p xs → nat_lt 0 (one b + count_by p xs) ≡ (b || list_any p xs)
    by_test true h = grind (arith, nat_tests)
    by_test false h = ap (nat_lt 0) (zero_plus (count_by p xs)) ∙ h

-- ---- look-ups

pub held_any : (gs : List Grant) (held children : List ℕ) (a ep : ℕ) → IsTallied gs held children → a < 64 → ep < 16
    → nat_lt 0 (slice_index_or held (16 * a + ep) 0) ≡ list_any (holds_at a ep) gs
held_any gs held children a ep t p q = ap (nat_lt 0) (t.holds a ep p q) ∙ any_count (holds_at a ep) gs

none_count : {X : Type 0} (p : X → Bool) (xs : List X) → (count_by p xs == 0) ≡ not (list_any p xs)
none_count p [] = refl
none_count p (x ∷ xs) = ap (λ n. n == 0) (count_cons p x xs) ∙ by_test (p x) (none_count p xs)
  where
    by_test : (b : Bool) → (count_by p xs == 0) ≡ not (list_any p xs) → (one b + count_by p xs == 0) ≡ not (b || list_any p xs)
    by_test true h = grind (arith, nat_tests)
    by_test false h = ap (λ n. n == 0) (zero_plus (count_by p xs)) ∙ h

pub childless : (gs : List Grant) (held children : List ℕ) (g : ℕ) → IsTallied gs held children → g ≤ 4096
    → (slice_index_or children g 0 == 0) ≡ not (list_any (is_open_child g) gs)
childless gs held children g t p = ap (λ n. n == 0) (t.under g (omega arith)) ∙ none_count (is_open_child g) gs

pub crowded : (gs : List Grant) (held children : List ℕ) (g : ℕ) → IsTallied gs held children → g ≤ 4096
    → nat_le 64 (slice_index_or children g 0) ≡ nat_le 64 (count_by (is_open_child g) gs)
crowded gs held children g t p = ap (nat_le 64) (t.under g (omega arith))

-- ---- tables after a change

at_set : (t : List ℕ) (i j v : ℕ) → i < length t → slice_index_or (slice_set t i v) j 0 ≡ (if j == i then v else slice_index_or t j 0)
at_set [] i j v h = absurd (omega arith)
at_set (x ∷ t) zero zero v h = refl
at_set (x ∷ t) zero (suc j) v h = grind (arith, nat_tests)
at_set (x ∷ t) (suc i) zero v h = grind (arith, nat_tests)
at_set (x ∷ t) (suc i) (suc j) v h =
    at_set t i j v (omega arith) ∙ ap (λ b. if b then v else slice_index_or t j 0) (grind (arith, nat_tests))

set_length : (t : List ℕ) (i v : ℕ) → length (slice_set t i v) ≡ length t
set_length [] i v = refl
set_length (x ∷ t) zero v = refl
set_length (x ∷ t) (suc i) v = ap suc (set_length t i v)

-- two numbers that are equal only where two others are, which they aren't
by_no : {i j k l : ℕ} (b : Bool) → (i == j) ≡ b → (i ≡ j → k ≡ l) → (k == l) ≡ false → (i == j) ≡ false
by_no false w f g = w
by_no {i = i} {j = j} {k = k} {l = l} true w f g = absurd (unequal k l g (f (grind (arith, nat_tests))))
  where
    unequal : (k l : ℕ) → (k == l) ≡ false → k ≡ l → ⊥
    unequal k l g m = grind (arith, nat_tests)

same_place : (a ep h e : ℕ) → ep < 16 → e < 16 → (16 * a + ep == 16 * h + e) ≡ ((h == a) && (e == ep))
same_place a ep h e p q = by_test (h == a) (e == ep) refl refl
  where
    by_test : (b c : Bool) → (h == a) ≡ b → (e == ep) ≡ c → (16 * a + ep == 16 * h + e) ≡ (b && c)
    by_test true true u v =
        let x : h ≡ a = grind (arith, nat_tests) in
        let y : e ≡ ep = grind (arith, nat_tests) in
        let z : 16 * a + ep ≡ 16 * h + e = omega arith in
        grind (arith, nat_tests, z)
    by_test true false u v = by_no (16 * a + ep == 16 * h + e) refl (λ z. (omega arith)) v
    by_test false c u v = by_no (16 * a + ep == 16 * h + e) refl (λ z. (omega arith)) u

-- ---- one grant more or less that isn't done

at_raised : (t : List ℕ) (i j : ℕ) → i < length t → slice_index_or (raised_at i t) j 0 ≡ slice_index_or t j 0 + one (j == i)
at_raised t i j h = at_set t i j (slice_index_or t i 0 + 1) h ∙ by_test (j == i) refl
  where
    by_test : (b : Bool) → (j == i) ≡ b → (if b then slice_index_or t i 0 + 1 else slice_index_or t j 0) ≡ slice_index_or t j 0 + one b
    by_test true e = let m : i ≡ j = grind (arith, nat_tests) in ap (λ k. slice_index_or t k 0 + 1) m
    by_test false e = omega arith

at_lowered : (t : List ℕ) (i j : ℕ) → i < length t → 0 < slice_index_or t i 0 → slice_index_or (lowered_at i t) j 0 + one (j == i) ≡ slice_index_or t j 0
at_lowered t i j h p = ap (λ n. n + one (j == i)) (at_set t i j (slice_index_or t i 0 - 1) h) ∙ by_test (j == i) refl
  where
    by_test : (b : Bool) → (j == i) ≡ b → (if b then slice_index_or t i 0 - 1 else slice_index_or t j 0) + one b ≡ slice_index_or t j 0
    by_test true e =
        let m : i ≡ j = grind (arith, nat_tests) in
        let n : slice_index_or t i 0 - 1 + 1 ≡ slice_index_or t i 0 = omega arith in
        n ∙ ap (λ k. slice_index_or t k 0) m
    by_test false e = omega arith

-- the second list has one more grant of this line that isn't done
pub record CountsMore (gs more : List Grant) (line : GrantLine) : Type 0 where
  pub holds : (a ep : ℕ) → count_by (holds_at a ep) more ≡ count_by (holds_at a ep) gs + one ((holder line == a) && (holder_ep line == ep))
  pub under : (g : ℕ) → count_by (is_open_child g) more ≡ count_by (is_open_child g) gs + one (is_number g (parent_of line))

pub no_parent : (o : Option ℕ) → None ≡ o → IsParent o
no_parent o e = subst IsParent e tt

pub some_parent : (o : Option ℕ) (p : ℕ) → Some p ≡ o → p ≤ 4096 → IsParent o
some_parent o p e h = subst IsParent e h

same_number : (p g : ℕ) → (g == p) ≡ (p == g)
same_number p g = grind (arith, nat_tests)

under_more : (t : List ℕ) (p : Option ℕ) (g : ℕ) → length t ≡ 4097 → IsParent p → slice_index_or (under_raised p t) g 0 ≡ slice_index_or t g 0 + one (is_number g p)
under_more t None g l h = omega arith
under_more t (Some p) g l h = at_raised t p g (omega arith) ∙ ap (λ b. slice_index_or t g 0 + one b) (same_number p g)

under_less : (t : List ℕ) (p : Option ℕ) (g : ℕ) → length t ≡ 4097 → IsParent p → IsSome_under p t → slice_index_or (under_lowered p t) g 0 + one (is_number g p) ≡ slice_index_or t g 0
under_less t None g l h k = omega arith
under_less t (Some p) g l h k = ap (λ b. slice_index_or (lowered_at p t) g 0 + one b) (sym (same_number p g)) ∙ at_lowered t p g (omega arith) k

under_length : (t : List ℕ) (p : Option ℕ) → length (under_raised p t) ≡ length t
under_length t None = refl
under_length t (Some p) = set_length t p (slice_index_or t p 0 + 1)

under_length_less : (t : List ℕ) (p : Option ℕ) → length (under_lowered p t) ≡ length t
under_length_less t None = refl
under_length_less t (Some p) = set_length t p (slice_index_or t p 0 - 1)

raised_tallied : (gs more : List Grant) (held children : List ℕ) (line : GrantLine) → IsTallied gs held children → CountsMore gs more line → length more ≤ 4096
    → holder line < 64 → holder_ep line < 16 → IsParent (parent_of line) → IsTallied more (held_raised line held) (under_raised (parent_of line) children)
raised_tallied gs more held children line t m few a e p =
    record {
      few = few;
      size = record { places = set_length held (place_of line) _ ∙ t.size.places; numbers = under_length children (parent_of line) ∙ t.size.numbers };
      holds = λ b ep x y.
          at_raised held (place_of line) (16 * b + ep) (omega (arith, t.size.places))
          ∙ ap (λ k. slice_index_or held (16 * b + ep) 0 + one k) (same_place b ep (holder line) (holder_ep line) y e)
          ∙ ap (λ n. n + one ((holder line == b) && (holder_ep line == ep))) (t.holds b ep x y)
          ∙ sym (m.holds b ep);
      under = λ g x.
          under_more children (parent_of line) g t.size.numbers p
          ∙ ap (λ n. n + one (is_number g (parent_of line))) (t.under g x)
          ∙ sym (m.under g);
    }

plus_same : (a b c : ℕ) → a + c ≡ b + c → a ≡ b
plus_same a b c h = omega arith

lowered_tallied : (gs less : List Grant) (held children : List ℕ) (line : GrantLine) → IsTallied gs held children → CountsMore less gs line → length less ≤ 4096
    → holder line < 64 → holder_ep line < 16 → IsParent (parent_of line) → MayLower line held children → IsTallied less (held_lowered line held) (under_lowered (parent_of line) children)
lowered_tallied gs less held children line t m few a e p k =
    record {
      few = few;
      size = record { places = set_length held (place_of line) _ ∙ t.size.places; numbers = under_length_less children (parent_of line) ∙ t.size.numbers };
      holds = λ b ep x y.
          plus_same _ _ (one ((holder line == b) && (holder_ep line == ep))) (
          ap (λ z. slice_index_or (held_lowered line held) (16 * b + ep) 0 + one z) (sym (same_place b ep (holder line) (holder_ep line) y e))
          ∙ at_lowered held (place_of line) (16 * b + ep) (omega (arith, t.size.places)) k.here
          ∙ t.holds b ep x y
          ∙ m.holds b ep);
      under = λ g x.
          plus_same _ _ (one (is_number g (parent_of line))) (
          under_less children (parent_of line) g t.size.numbers p k.above
          ∙ t.under g x
          ∙ m.under g);
    }

-- ---- a grant more

open_holds : (a ep : ℕ) (x : Grant) → is_done x.standing ≡ false → holds_at a ep x ≡ ((holder x.line == a) && (holder_ep x.line == ep))
open_holds a ep x h = ap (λ b. not b && ((holder x.line == a) && (holder_ep x.line == ep))) h

open_child : (g : ℕ) (x : Grant) → is_done x.standing ≡ false → is_open_child g x ≡ is_number g (parent_of x.line)
open_child g x h = ap (λ b. is_child g x && not b) h ∙ by_test (is_child g x)
  where
    by_test : (b : Bool) → (b && true) ≡ b
    by_test true = refl
    by_test false = refl

done_holds : (a ep : ℕ) (x : Grant) → is_done x.standing ≡ true → holds_at a ep x ≡ false
done_holds a ep x h = ap (λ b. not b && ((holder x.line == a) && (holder_ep x.line == ep))) h

done_child : (g : ℕ) (x : Grant) → is_done x.standing ≡ true → is_open_child g x ≡ false
done_child g x h = ap (λ b. is_child g x && not b) h ∙ by_test (is_child g x)
  where
    by_test : (b : Bool) → (b && false) ≡ false
    by_test true = refl
    by_test false = refl

more_pushed : (gs : List Grant) (x : Grant) → is_done x.standing ≡ false → CountsMore gs (gs ++ x ∷ []) x.line
more_pushed gs x h =
    record {
      holds = λ a ep. count_push (holds_at a ep) gs x ∙ ap (λ b. count_by (holds_at a ep) gs + one b) (open_holds a ep x h);
      under = λ g. count_push (is_open_child g) gs x ∙ ap (λ b. count_by (is_open_child g) gs + one b) (open_child g x h);
    }

pub tallied_push : (gs : List Grant) (held children : List ℕ) (line : GrantLine) (f : Fresh) → IsTallied gs held children → length gs < 4096
    → holder line < 64 → holder_ep line < 16 → IsParent (parent_of line) → IsTallied (gs ++ new_grant line f ∷ []) (held_raised line held) (under_raised (parent_of line) children)
tallied_push gs held children line f t few a e p =
    raised_tallied gs (gs ++ new_grant line f ∷ []) held children line t (more_pushed gs (new_grant line f) refl) (omega (arith, length_pushed gs (new_grant line f))) a e p

is_few : (t : List ℕ) (gs : List Grant) (p : Option ℕ) → ((g : ℕ) → g < 4097 → slice_index_or t g 0 ≡ count_by (is_open_child g) gs) → length gs ≤ 4096 → IsParent p → IsFew p t
is_few t gs None u f h = tt
is_few t gs (Some p) u f h = omega (arith, u p (omega arith), count_by-le-length (is_open_child p) gs)

pub may_raise : (gs : List Grant) (held children : List ℕ) (line : GrantLine) → IsTallied gs held children → holder line < 64 → holder_ep line < 16 → IsParent (parent_of line) → MayRaise line held children
may_raise gs held children line t a e p =
    record {
      here = omega (arith, t.holds (holder line) (holder_ep line) a e, count_by-le-length (holds_at (holder line) (holder_ep line)) gs, t.few);
      above = is_few children gs (parent_of line) t.under t.few p;
    }

-- ---- a grant that changes

set_few : (gs : List Grant) (i : ℕ) (y : Grant) → length (slice_set gs i y) ≡ length gs
set_few [] i y = refl
set_few (x ∷ gs) zero y = refl
set_few (x ∷ gs) (suc i) y = ap suc (set_few gs i y)

plus_one : (a b c d : ℕ) → a + c ≡ b + d → c ≡ 0 → a ≡ b + d
plus_one a b c d h k = omega arith

minus_one : (a b c d : ℕ) → a + c ≡ b + d → d ≡ 0 → b ≡ a + c
minus_one a b c d h k = omega arith

-- one that was done isn't any more
more_undone : (gs : List Grant) (i : ℕ) (x y : Grant) → slice_get gs i ≡ Some x → is_done x.standing ≡ true → is_done y.standing ≡ false → CountsMore gs (slice_set gs i y) y.line
more_undone gs i x y e h k =
    record {
      holds = λ a ep.
          plus_one _ _ _ _ (count_set (holds_at a ep) gs i x y e) (ap one (done_holds a ep x h))
          ∙ ap (λ b. count_by (holds_at a ep) gs + one b) (open_holds a ep y k);
      under = λ g.
          plus_one _ _ _ _ (count_set (is_open_child g) gs i x y e) (ap one (done_child g x h))
          ∙ ap (λ b. count_by (is_open_child g) gs + one b) (open_child g y k);
    }

-- one that wasn't done is
more_done : (gs : List Grant) (i : ℕ) (x y : Grant) → slice_get gs i ≡ Some x → is_done x.standing ≡ false → is_done y.standing ≡ true → CountsMore (slice_set gs i y) gs x.line
more_done gs i x y e h k =
    record {
      holds = λ a ep.
          minus_one _ _ _ _ (count_set (holds_at a ep) gs i x y e) (ap one (done_holds a ep y k))
          ∙ ap (λ b. count_by (holds_at a ep) (slice_set gs i y) + one b) (open_holds a ep x h);
      under = λ g.
          minus_one _ _ _ _ (count_set (is_open_child g) gs i x y e) (ap one (done_child g y k))
          ∙ ap (λ b. count_by (is_open_child g) (slice_set gs i y) + one b) (open_child g x h);
    }

pub tallied_undone : (gs : List Grant) (held children : List ℕ) (i : ℕ) (x y : Grant) → IsTallied gs held children → slice_get gs i ≡ Some x → is_done x.standing ≡ true → is_done y.standing ≡ false
    → holder y.line < 64 → holder_ep y.line < 16 → IsParent (parent_of y.line) → IsTallied (slice_set gs i y) (held_raised y.line held) (under_raised (parent_of y.line) children)
tallied_undone gs held children i x y t e h k a b p =
    raised_tallied gs (slice_set gs i y) held children y.line t (more_undone gs i x y e h k) (omega (arith, t.few, set_few gs i y)) a b p

counts_some : (gs : List Grant) (i : ℕ) (x : Grant) (p : Grant → Bool) → slice_get gs i ≡ Some x → p x ≡ true → 0 < count_by p gs
counts_some [] i x p e h = absurd cc
counts_some (z ∷ gs) zero x p e h =
    let m : z ≡ x = cc in
    let f : one (p z) ≡ 1 = ap one (ap p m ∙ h) in
    let k = count_cons p z gs in
    omega arith
counts_some (z ∷ gs) (suc i) x p e h =
    let f = counts_some gs i x p e h in
    let k = count_cons p z gs in
    omega arith

some_under : (t : List ℕ) (gs : List Grant) (i : ℕ) (x : Grant) (p : Option ℕ) → ((g : ℕ) → g < 4097 → slice_index_or t g 0 ≡ count_by (is_open_child g) gs) → slice_get gs i ≡ Some x → is_done x.standing ≡ false
    → parent_of x.line ≡ p → IsParent p → IsSome_under p t
some_under t gs i x None u e h q k = tt
some_under t gs i x (Some p) u e h q k =
    let s : is_open_child p x ≡ true = open_child p x h ∙ ap (is_number p) q ∙ grind (arith, nat_tests) in
    omega (arith, u p (omega arith), counts_some gs i x (is_open_child p) e s)

pub may_lower : (gs : List Grant) (held children : List ℕ) (i : ℕ) (x : Grant) → IsTallied gs held children → slice_get gs i ≡ Some x → is_done x.standing ≡ false
    → holder x.line < 64 → holder_ep x.line < 16 → IsParent (parent_of x.line) → MayLower x.line held children
may_lower gs held children i x t e h a b p =
    let s : holds_at (holder x.line) (holder_ep x.line) x ≡ true = open_holds (holder x.line) (holder_ep x.line) x h ∙ grind (arith, nat_tests) in
    record {
      here = omega (arith, t.holds (holder x.line) (holder_ep x.line) a b, counts_some gs i x (holds_at (holder x.line) (holder_ep x.line)) e s);
      above = some_under children gs i x (parent_of x.line) t.under e h refl p;
    }

pub tallied_done : (gs : List Grant) (held children : List ℕ) (i : ℕ) (x y : Grant) → IsTallied gs held children → slice_get gs i ≡ Some x → is_done x.standing ≡ false → is_done y.standing ≡ true
    → holder x.line < 64 → holder_ep x.line < 16 → IsParent (parent_of x.line) → IsTallied (slice_set gs i y) (held_lowered x.line held) (under_lowered (parent_of x.line) children)
tallied_done gs held children i x y t e h k a b p =
    lowered_tallied gs (slice_set gs i y) held children x.line t (more_done gs i x y e h k) (omega (arith, t.few, set_few gs i y)) a b p (may_lower gs held children i x t e h a b p)

-- ---- changes that the tables don't see

pub record IsAlike (x y : Grant) : Type 0 where
  pub line : y.line ≡ x.line
  pub done : is_done y.standing ≡ is_done x.standing

alike_holds : (a ep : ℕ) (x y : Grant) → IsAlike x y → holds_at a ep y ≡ holds_at a ep x
alike_holds a ep x y k = ap (λ l. not (is_done y.standing) && ((holder l == a) && (holder_ep l == ep))) k.line ∙ ap (λ b. not b && ((holder x.line == a) && (holder_ep x.line == ep))) k.done

alike_child : (g : ℕ) (x y : Grant) → IsAlike x y → is_open_child g y ≡ is_open_child g x
alike_child g x y k = ap (λ l. is_number g (parent_of l) && not (is_done y.standing)) k.line ∙ ap (λ b. is_number g (parent_of x.line) && not b) k.done

abbrev pub AreAlike : List Grant → List Grant → Type 0
AreAlike [] [] = Unit {0}
AreAlike [] (y ∷ ys) = ⊥
AreAlike (x ∷ xs) [] = ⊥
AreAlike (x ∷ xs) (y ∷ ys) = IsAlike x y × AreAlike xs ys

alike_length : (xs ys : List Grant) → AreAlike xs ys → length ys ≡ length xs
alike_length [] [] a = refl
alike_length [] (y ∷ ys) a = absurd a
alike_length (x ∷ xs) [] a = absurd a
alike_length (x ∷ xs) (y ∷ ys) a = ap suc (alike_length xs ys a.1)

alike_count : (p : Grant → Bool) (xs ys : List Grant) → ((x y : Grant) → IsAlike x y → p y ≡ p x) → AreAlike xs ys → count_by p ys ≡ count_by p xs
alike_count p [] [] f a = refl
alike_count p [] (y ∷ ys) f a = absurd a
alike_count p (x ∷ xs) [] f a = absurd a
alike_count p (x ∷ xs) (y ∷ ys) f a =
    count_cons p y ys ∙ ap (λ b. one b + count_by p ys) (f x y a.0) ∙ ap (λ n. one (p x) + n) (alike_count p xs ys f a.1) ∙ sym (count_cons p x xs)

pub tallied_alike : (gs more : List Grant) (held children : List ℕ) → IsTallied gs held children → AreAlike gs more → IsTallied more held children
tallied_alike gs more held children t a =
    record {
      few = omega (arith, t.few, alike_length gs more a);
      size = t.size;
      holds = λ b ep x y. t.holds b ep x y ∙ sym (alike_count (holds_at b ep) gs more (alike_holds b ep) a);
      under = λ g x. t.under g x ∙ sym (alike_count (is_open_child g) gs more (alike_child g) a);
    }

is_alike : (x : Grant) → IsAlike x x
is_alike x = record { line = refl; done = refl }

alike_refl : (xs : List Grant) → AreAlike xs xs
alike_refl [] = tt
alike_refl (x ∷ xs) = (is_alike x, alike_refl xs)

pub alike_set : (xs : List Grant) (i : ℕ) (x y : Grant) → slice_get xs i ≡ Some x → IsAlike x y → AreAlike xs (slice_set xs i y)
alike_set [] i x y e a = tt
alike_set (z ∷ xs) zero x y e a = let m : z ≡ x = cc in (subst (λ w. IsAlike w y) (sym m) a, alike_refl xs)
alike_set (z ∷ xs) (suc i) x y e a = (is_alike z, alike_set xs i x y e a)
