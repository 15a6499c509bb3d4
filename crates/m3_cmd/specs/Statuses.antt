-- The lines that are written with statuses, and which statuses there are.
use Rattle.std.specs.Prelude.{◌≡◌, ◌⊎◌, ℕ, List, [], ◌∷◌, ◌++◌, Option, Some, None, codes}

abbrev pub line_of : List ℕ → List ℕ
line_of text = text ++ 10 ∷ []

abbrev pub usage_line : List ℕ
usage_line = line_of (codes "usage: m3x run [--json] | auto [--json] | tiles [--json] | check | show | load N")

abbrev pub read_fault_line : List ℕ
read_fault_line = line_of (codes "read fault")

abbrev pub too_long_line : List ℕ
too_long_line = line_of (codes "too long")

-- what holds of a source's bytes, where it tells them
abbrev pub OfBytes : Option (List ℕ) → (List ℕ → Type 0) → Type 0
OfBytes None P = Unit {0}
OfBytes (Some bytes) P = P bytes

-- the status is one of these
abbrev pub IsOneOf : List ℕ → ℕ → Type 0
IsOneOf [] status = ⊥
IsOneOf (s ∷ ss) status = (status ≡ s) ⊎ IsOneOf ss status
