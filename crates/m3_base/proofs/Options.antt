-- Facts about options that the kit doesn't export.
use Rattle.std.proofs.Common.{◌≡◌, ℕ, true, false, Some, None, refl, ap, arith}
use Rattle.std.specs.Prelude.{Option, is_some}
use Rattle.std.proofs.lemmas.Bool.Decides.{nat_tests}
use Rattle.m3_base.specs.Ideal.State.{is_number}

pub none_if_not_some : {X : Type 0} (o : Option X) → is_some o ≡ false → o ≡ None
none_if_not_some None e = refl
none_if_not_some (Some x) e = absurd (cc)

pub some_if_some : {X : Type 0} (o : Option X) → is_some o ≡ true → (x : X) × (o ≡ Some x)
some_if_some None e = absurd (cc)
some_if_some (Some x) e = (x, refl)

pub some_if_number : (n : ℕ) (o : Option ℕ) → is_number n o ≡ true → o ≡ Some n
some_if_number n None e = absurd (cc)
some_if_number n (Some k) e = let same : k ≡ n = grind (arith, nat_tests, e) in ap Some same
