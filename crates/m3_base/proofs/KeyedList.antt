-- Sums and look-ups over lists by key.
use Rattle.std.proofs.Common.{◌≡◌, ℕ, ◌+◌, Bool, true, false, List, [], ◌∷◌, Some, refl, arith}
use Rattle.m3_base.specs.Lists.Counting.{total, one, how_many}
use Rattle.m3_base.specs.Lists.Keyed.{find, with_replaced, without, with_inserted}

module _ {K X : Type 0} (key : X → K) (same before : K → K → Bool) where
  pub total-replaced : (f : X → ℕ) (x old : X) (xs : List X) → find key same (key x) xs ≡ Some old → total f (with_replaced key same x xs) + f old ≡ total f xs + f x
  total-replaced f x old [] h = grind arith
  total-replaced f x old (y ∷ ys) h = grind (arith, total-replaced f x old ys)

  pub total-without : (f : X → ℕ) (k : K) (old : X) (xs : List X) → find key same k xs ≡ Some old → total f (without key same k xs) + f old ≡ total f xs
  total-without f k old [] h = grind arith
  total-without f k old (y ∷ ys) h = grind (arith, total-without f k old ys)

  pub total-inserted : (f : X → ℕ) (x : X) (xs : List X) → total f (with_inserted key before x xs) ≡ total f xs + f x
  total-inserted f x [] = grind arith
  total-inserted f x (y ∷ ys) = grind (arith, total-inserted f x ys)

  pub how_many-replaced : (p : X → Bool) (x old : X) (xs : List X) → find key same (key x) xs ≡ Some old → how_many p (with_replaced key same x xs) + one (p old) ≡ how_many p xs + one (p x)
  how_many-replaced p x old [] h = grind arith
  how_many-replaced p x old (y ∷ ys) h = grind (arith, how_many-replaced p x old ys)

  pub how_many-without : (p : X → Bool) (k : K) (old : X) (xs : List X) → find key same k xs ≡ Some old → how_many p (without key same k xs) + one (p old) ≡ how_many p xs
  how_many-without p k old [] h = grind arith
  how_many-without p k old (y ∷ ys) h = grind (arith, how_many-without p k old ys)

  pub how_many-inserted : (p : X → Bool) (x : X) (xs : List X) → how_many p (with_inserted key before x xs) ≡ how_many p xs + one (p x)
  how_many-inserted p x [] = grind arith
  how_many-inserted p x (y ∷ ys) = grind (arith, how_many-inserted p x ys)

  -- a look-up after a change: the changed key, and any other
  pub find-replaced_other : (k : K) (x : X) (xs : List X) → ((a b c : K) → same a c ≡ true → same b c ≡ true → same a b ≡ true) → same k (key x) ≡ false → find key same k (with_replaced key same x xs) ≡ find key same k xs
  find-replaced_other k x [] joins h = refl
  find-replaced_other k x (y ∷ ys) joins h = grind (arith, find-replaced_other k x ys joins h, joins k (key x) (key y))

  pub find-replaced_same : (x old : X) (xs : List X) → same (key x) (key x) ≡ true → find key same (key x) xs ≡ Some old → find key same (key x) (with_replaced key same x xs) ≡ Some x
  find-replaced_same x old [] r h = grind arith
  find-replaced_same x old (y ∷ ys) r h = grind (arith, find-replaced_same x old ys r)
