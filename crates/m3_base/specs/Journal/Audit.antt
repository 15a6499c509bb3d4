-- The closing lines of a journal.
use Rattle.std.specs.Prelude.{ℕ, zero, suc, ◌+◌, ◌-◌, List, [], ◌∷◌, ◌++◌, is_none}
use Rattle.m3_base.specs.declared.order.Order.{Order}
use Rattle.m3_base.specs.declared.journal.AuditLine.{AuditLine}
use Rattle.m3_base.specs.Ideal.State.{State}
use Rattle.m3_base.specs.Placement.State.{Placement, current_of}
use Rattle.m3_base.specs.Placement.Driver.{next_event}
use Rattle.m3_base.specs.Journal.Legal.{credit_lines, flights_lines}

-- the current activities of so many tiles from t on
abbrev pub tile_lines_from : ℕ → ℕ → Placement → List AuditLine
tile_lines_from t zero p = []
tile_lines_from t (suc n) p = AuditLine.Tile t (current_of t p) ∷ tile_lines_from (t + 1) n p

-- tiles 0 and 1 run no activity
abbrev pub tile_lines : ℕ → Placement → List AuditLine
tile_lines tiles p = tile_lines_from 2 (tiles - 2) p

abbrev pub quiet_line : State → Placement → List Order → AuditLine
quiet_line s p left = AuditLine.Quiet (is_none (next_event s p left))

-- left: the script's orders that the journal doesn't have yet
abbrev pub audit_lines : ℕ → State → Placement → List Order → List AuditLine
audit_lines tiles s p left = credit_lines s ++ tile_lines tiles p ++ flights_lines s ++ quiet_line s p left ∷ []
