-- Words as numbers: decimal, without a needless zero in front.
use Rattle.std.specs.Prelude.{ℕ, ◌+◌, ◌-◌, ◌*◌, nat_lt, nat_le, ◌==◌, ◌&&◌, ◌||◌, not, Bool, if◌then◌else◌, List, [], ◌∷◌, length, slice_index, Result, Ok, Err}
use Rattle.std.specs.Str.{all_ascii_digits}
use Rattle.m3_text.specs.declared.refusal.Why.{Why}
use Rattle.m3_text.specs.declared.refusal.Why.TheVariants.{Number}

-- the number that digits stand for, after the digits before them
abbrev pub read_on : ℕ → List ℕ → ℕ
read_on n [] = n
read_on n (c ∷ cs) = read_on (10 * n + (c - 48)) cs

abbrev pub is_decimal : List ℕ → Bool
is_decimal w = all_ascii_digits w && nat_lt 0 (length w) && (length w == 1 || not (slice_index w 0 == 48))

-- a decimal number from low to high
unfoldable pub number : ℕ → ℕ → List ℕ → Result ℕ Why
number low high w = if is_decimal w && nat_le low (read_on 0 w) && nat_le (read_on 0 w) high then Ok (read_on 0 w) else Err Number
