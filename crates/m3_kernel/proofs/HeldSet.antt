-- The set of who has packets held, after a seat has changed.
use Rattle.std.proofs.Common.{◌≡◌, ℕ, Bool, true, false, cond, List, [], ◌∷◌, ◌++◌, length, Some, refl, sym, ap, ◌∙◌, arith}
use Rattle.std.specs.Prelude.{slice_get, slice_set, ◌==◌, ◌&&◌, ◌||◌, not}
use Rattle.std.proofs.lemmas.Bool.Decides.{nat_tests}
use Rattle.m3_bit_set.specs.BitSet.{has_place}
use Rattle.m3_model.specs.Kernel.State.{ActivityEntry}
use Rattle.m3_kernel.specs.LookupTables.{test, IsOnly, is_of, IsHeldSet}
use Rattle.m3_kernel.proofs.UniqueElement.{get_set, get_more, only_beside}

some_is : {X : Type 0} (x y : X) → Some x ≡ Some y → x ≡ y
some_is x y e = cc

pub none_held : (xs : List ActivityEntry) (held : List ℕ) → xs ≡ [] → IsHeldSet xs held
none_held xs held e i x here none = let f : slice_get {X = ActivityEntry} [] i ≡ Some x = ap (λ ys. slice_get ys i) (sym e) ∙ here in absurd (cc)

-- one seat more, for which nothing is held
pub held_more : (xs : List ActivityEntry) (z : ActivityEntry) (held : List ℕ) → z.hold ≡ [] → IsHeldSet xs held → IsHeldSet (xs ++ z ∷ []) held
held_more xs z held empty is i x here none = by_place (i == length xs) (sym (get_more xs z i) ∙ here)
  where
    by_place : (b : Bool) → cond b (Some z) (slice_get xs i) ≡ Some x → x.hold ≡ []
    by_place true e = ap (λ (y : ActivityEntry). y.hold) (sym (some_is z x e)) ∙ empty
    by_place false e = is i x e none

module _ (xs : List ActivityEntry) (at : ℕ) (x y : ActivityEntry) (here : slice_get xs at ≡ Some x) (act : y.act ≡ x.act) (held now : List ℕ) (is : IsHeldSet xs held) where
  -- by what the change says of this seat, and of the others
  by_seat : (has_place now y.act ≡ false → y.hold ≡ []) → ((i : ℕ) (z : ActivityEntry) → (i == at) ≡ false → slice_get xs i ≡ Some z → has_place now z.act ≡ false → has_place held z.act ≡ false) → IsHeldSet (slice_set xs at y) now
  by_seat own others i z there none = by_place (i == at) refl (sym (get_set xs at i x y here) ∙ there)
    where
      by_place : (b : Bool) → (i == at) ≡ b → cond b (Some y) (slice_get xs i) ≡ Some z → z.hold ≡ []
      by_place true d e =
          let f : y ≡ z = some_is y z e in
          ap (λ (u : ActivityEntry). u.hold) (sym f) ∙ own (ap (λ (u : ActivityEntry). has_place now u.act) f ∙ none)
      by_place false d e = is i z e (others i z d e none)

  -- what is held for it is as it was
  pub held_same : y.hold ≡ x.hold → now ≡ held → IsHeldSet (slice_set xs at y) now
  held_same hold same =
      by_seat
      (λ none. hold ∙ is at x here (sym (ap (has_place held) act) ∙ ap (λ (h : List ℕ). has_place h y.act) (sym same) ∙ none))
      (λ i z d e none. ap (λ (h : List ℕ). has_place h z.act) (sym same) ∙ none)

  -- it is in the set
  pub held_with : ((i : ℕ) → has_place now i ≡ ((i == y.act) || has_place held i)) → IsHeldSet (slice_set xs at y) now
  held_with set_is =
      by_seat
      (λ none. let own : (y.act == y.act) ≡ true = grind (arith, nat_tests) in let f : true ≡ false = sym (set_is y.act ∙ ap (λ b. b || has_place held y.act) own) ∙ none in absurd (cc))
      (λ i z d e none. right_false (z.act == y.act) (has_place held z.act) (sym (set_is z.act) ∙ none))
    where
      right_false : (a b : Bool) → (a || b) ≡ false → b ≡ false
      right_false true b e = absurd (cc)
      right_false false b e = e

  -- it isn't in the set where nothing is held for it
  pub held_without : (b : Bool) → b ≡ (length y.hold == 0) → IsOnly (is_of x.act) xs (Some at) → ((i : ℕ) → has_place now i ≡ (not (b && (i == y.act)) && has_place held i))
      → (has_place held y.act ≡ false → y.hold ≡ []) → IsHeldSet (slice_set xs at y) now
  held_without b empty only set_is before =
      by_seat
      (λ none. own b empty (sym (set_is y.act) ∙ none))
      (λ i z d e none. other b (z.act == y.act) (apart i z d e) (has_place held z.act) (sym (set_is z.act) ∙ none))
    where
      no_hold : (b : Bool) → b ≡ (length y.hold == 0) → b ≡ true → y.hold ≡ []
      no_hold b e f = by_list y.hold (sym e ∙ f)
        where
          by_list : {X : Type 0} (ps : List X) → (length ps == 0) ≡ true → ps ≡ []
          by_list [] e = refl
          by_list (p ∷ ps) e = let n : (length (p ∷ ps) == 0) ≡ false = grind (arith, nat_tests) in let f : true ≡ false = sym e ∙ n in absurd (cc)

      own : (c : Bool) → c ≡ (length y.hold == 0) → (not (c && (y.act == y.act)) && has_place held y.act) ≡ false → y.hold ≡ []
      own true e f = no_hold true e refl
      own false e f = before f

      other : (c d : Bool) → d ≡ false → (h : Bool) → (not (c && d) && h) ≡ false → h ≡ false
      other true true e h f = absurd (cc)
      other true false e h f = f
      other false d e h f = f

      apart : (i : ℕ) (z : ActivityEntry) → (i == at) ≡ false → slice_get xs i ≡ Some z → (z.act == y.act) ≡ false
      apart i z d e =
          let never : (x.act == z.act) ≡ false = ap (test (is_of x.act)) (sym e) ∙ only_beside (is_of x.act) xs at i only d in
          let n = act in
          grind (arith, nat_tests)
