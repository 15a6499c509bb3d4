-- One link among all, after it is set anew.
use Rattle.std.proofs.Common.{◌≡◌, ℕ, zero, suc, ◌+◌, ◌*◌, ◌<◌, Bool, true, false, cond, List, [], ◌∷◌, refl, sym, subst, arith, set, get_or, length}
use Rattle.std.specs.Prelude.{◌==◌}
use Rattle.std.proofs.lemmas.Bool.Decides.{nat_tests}

pub get_or-set : {X : Type 0} (xs : List X) (i j : ℕ) (y d : X) → i < length xs → get_or (set xs i y) j d ≡ cond (i == j) y (get_or xs j d)
get_or-set [] i j y d h = absurd (omega arith)
get_or-set (x ∷ xs) zero zero y d h = refl
get_or-set (x ∷ xs) zero (suc j) y d h = grind (arith, nat_tests)
get_or-set (x ∷ xs) (suc i) zero y d h = grind (arith, nat_tests)
get_or-set (x ∷ xs) (suc i) (suc j) y d h = let r = get_or-set xs i j y d (omega arith) in grind (arith, nat_tests, r)

-- two links are one link
pub same_link : (f t a b : ℕ) → t < 16 → b < 16 → (16 * f + t == 16 * a + b) ≡ true → (f ≡ a) × (t ≡ b)
same_link f t a b ht hb e =
    let n : 16 * f + t ≡ 16 * a + b = grind (arith, nat_tests, e) in
    let x : f ≡ a = omega arith in
    let y : t ≡ b = omega arith in
    (x, y)

module _ {Q : Type 0} (links : List (List Q)) (f t : ℕ) (ys : List Q) (hf : f < 16) (ht : t < 16) (len : length links ≡ 256) where
  pub is_link : 16 * f + t < length links
  is_link = omega arith

  -- a fact on each link that holds of the one that is set anew
  pub links_set : (P : ℕ → ℕ → List Q → Type 0) (a b : ℕ) → b < 16 → P a b (get_or links (16 * a + b) []) → (f ≡ a → t ≡ b → P a b ys) → P a b (get_or (set links (16 * f + t) ys) (16 * a + b) [])
  links_set P a b hb old new = subst (P a b) (sym (get_or-set links (16 * f + t) (16 * a + b) ys [] is_link)) (by_test (16 * f + t == 16 * a + b) refl)
    where
      by_test : (z : Bool) → (16 * f + t == 16 * a + b) ≡ z → P a b (cond z ys (get_or links (16 * a + b) []))
      by_test true e = let s = same_link f t a b ht hb e in new s.0 s.1
      by_test false e = old

  -- and a fact on each other link that holds of the one that is set anew
  pub links_either : (P : ℕ → ℕ → List Q → Type 0) (a b : ℕ) → b < 16 → ((16 * f + t == 16 * a + b) ≡ false → P a b (get_or links (16 * a + b) [])) → (f ≡ a → t ≡ b → P a b ys) → P a b (get_or (set links (16 * f + t) ys) (16 * a + b) [])
  links_either P a b hb old new = subst (P a b) (sym (get_or-set links (16 * f + t) (16 * a + b) ys [] is_link)) (by_test (16 * f + t == 16 * a + b) refl)
    where
      by_test : (z : Bool) → (16 * f + t == 16 * a + b) ≡ z → P a b (cond z ys (get_or links (16 * a + b) []))
      by_test true e = let s = same_link f t a b ht hb e in new s.0 s.1
      by_test false e = old e
