-- Look-ups in a list that became longer, or changed at a place.
use Rattle.std.proofs.Common.{◌≡◌, ℕ, zero, suc, ◌+◌, ◌<◌, ◌≤◌, List, [], ◌∷◌, ◌++◌, length, get_or, replicate, Some, None, refl, arith, length-append}
use Rattle.std.specs.Prelude.{if◌then◌else◌, ◌==◌, slice_get, slice_set}
use Rattle.std.proofs.lemmas.Bool.Decides.{nat_tests}

pub get_pushed : {X : Type 0} (xs : List X) (y : X) (i : ℕ) → slice_get (xs ++ y ∷ []) i ≡ (if i == length xs then Some y else slice_get xs i)
get_pushed [] y zero = refl
get_pushed [] y (suc i) = grind (arith, nat_tests)
get_pushed (x ∷ xs) y zero = grind (arith, nat_tests)
get_pushed (x ∷ xs) y (suc i) = grind (arith, nat_tests, get_pushed xs y i)

-- a list of one value has that value everywhere, and past its end by default
pub get_replicated : {X : Type 0} (n i : ℕ) (x : X) → get_or (replicate n x) i x ≡ x
get_replicated zero i x = refl
get_replicated (suc n) zero x = refl
get_replicated (suc n) (suc i) x = get_replicated n i x

pub get_none : {X : Type 0} (xs : List X) (i : ℕ) → slice_get xs i ≡ None → length xs ≤ i
get_none [] i e = omega arith
get_none (x ∷ xs) zero e = absurd (cc)
get_none (x ∷ xs) (suc i) e = let h : length xs ≤ i = get_none xs i e in omega arith

pub get_set : {X : Type 0} (xs : List X) (i k : ℕ) (x y : X) → slice_get xs i ≡ Some x → slice_get (slice_set xs i y) k ≡ (if k == i then Some y else slice_get xs k)
get_set [] i k x y e = absurd (cc)
get_set (z ∷ zs) zero zero x y e = refl
get_set (z ∷ zs) zero (suc k) x y e = grind (arith, nat_tests)
get_set (z ∷ zs) (suc i) zero x y e = grind (arith, nat_tests)
get_set (z ∷ zs) (suc i) (suc k) x y e = grind (arith, nat_tests, get_set zs i k x y e)

pub get_set_within : {X : Type 0} (xs : List X) (i k : ℕ) (y : X) → i < length xs → slice_get (slice_set xs i y) k ≡ (if k == i then Some y else slice_get xs k)
get_set_within [] i k y h = absurd (omega arith)
get_set_within (z ∷ zs) zero zero y h = refl
get_set_within (z ∷ zs) zero (suc k) y h = grind (arith, nat_tests)
get_set_within (z ∷ zs) (suc i) zero y h = grind (arith, nat_tests)
get_set_within (z ∷ zs) (suc i) (suc k) y h = grind (arith, nat_tests, get_set_within zs i k y (omega (arith, h)))

pub length_pushed : {X : Type 0} (xs : List X) (y : X) → length (xs ++ y ∷ []) ≡ length xs + 1
length_pushed xs y = length-append xs (y ∷ [])
