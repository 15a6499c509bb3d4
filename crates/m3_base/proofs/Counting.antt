-- Sums and counts over lists that changed.
use Rattle.std.proofs.Common.{◌≡◌, ℕ, zero, suc, ◌+◌, ◌<◌, Bool, List, [], ◌∷◌, ◌++◌, length, get_or, set, arith}
use Rattle.m3_base.specs.Lists.Counting.{total, how_many}

pub total-set : {X : Type 0} (f : X → ℕ) (xs : List X) (i : ℕ) (y d : X) → i < length xs → total f (set xs i y) + f (get_or xs i d) ≡ total f xs + f y
total-set f [] i y d h = absurd (omega arith)
total-set f (x ∷ xs) zero y d h = omega arith
total-set f (x ∷ xs) (suc i) y d h = omega (arith, total-set f xs i y d (omega arith))

pub how_many-append : {X : Type 0} (p : X → Bool) (xs ys : List X) → how_many p (xs ++ ys) ≡ how_many p xs + how_many p ys
how_many-append p [] ys = omega arith
how_many-append p (x ∷ xs) ys = omega (arith, how_many-append p xs ys)
