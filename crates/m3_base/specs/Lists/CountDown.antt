-- Numbers that count down.
use Rattle.std.specs.Prelude.{ℕ, zero, suc}

-- one less, and 0 of 0
abbrev pub one_less : ℕ → ℕ
one_less zero = 0
one_less (suc n) = n
