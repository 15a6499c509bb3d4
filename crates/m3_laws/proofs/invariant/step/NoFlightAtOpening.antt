-- Nothing flies at the opening of a setup.
use Rattle.std.proofs.Common.{◌≡◌, ℕ, ◌+◌, List, [], ◌∷◌, length, refl, ◌∙◌}
use Rattle.m3_base.specs.declared.setup_line.SetupLine.{SetupLine}
use Rattle.m3_base.specs.Ideal.State.{State, parent_in, parent_of}
use Rattle.m3_base.specs.Ideal.GrantRules.{form}
use Rattle.m3_base.specs.Ideal.Opening.{opening, with_line, with_lines}
use Rattle.m3_laws.proofs.invariant.wellformed.StepKeeps.{granted_flights}

line_flights : (s : State) (l : SetupLine) → (with_line s l).flights ≡ s.flights
line_flights s (SetupLine.Act a t) = refl
line_flights s (SetupLine.Grant line) = granted_flights s line (form (length s.grants + 1) line (parent_in s.grants (parent_of line)))
line_flights s (SetupLine.Quantum q) = refl
line_flights s (SetupLine.Files g) = refl
line_flights s (SetupLine.Item a c) = refl
line_flights s (SetupLine.AwaitItem a ep) = refl
line_flights s (SetupLine.Writer a m d e chunk ring bytes) = refl
line_flights s (SetupLine.Reader a m d chunk ring fuel) = refl
line_flights s (SetupLine.Boxed a logic fuel) = refl

lines_flights : (s : State) (ls : List SetupLine) → (with_lines s ls).flights ≡ s.flights
lines_flights s [] = refl
lines_flights s (l ∷ ls) = lines_flights (with_line s l) ls ∙ line_flights s l

pub nothing_flies : (memory : ℕ) (lines : List SetupLine) → (opening memory lines).flights ≡ []
nothing_flies memory lines = lines_flights (opening memory []) lines
