-- Numbers below 2 ^ 32 as four bytes, the least first.
use Rattle.std.specs.Prelude.{ℕ, ◌/◌, ◌%◌, List, [], ◌∷◌}

-- the four bytes of a number
abbrev pub four_bytes : ℕ → List ℕ
four_bytes n = n % 256 ∷ (n / 256) % 256 ∷ (n / 65536) % 256 ∷ (n / 16777216) % 256 ∷ []
