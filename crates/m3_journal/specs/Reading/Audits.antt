-- Audit lines read from their words.
use Rattle.std.specs.Prelude.{ℕ, true, false, if◌then◌else◌, List, [], ◌∷◌, codes, Some, None, Result, Ok, Err}
use Rattle.m3_base.specs.declared.journal.AuditLine.{AuditLine}
use Rattle.m3_text.specs.declared.refusal.Why.{Why}
use Rattle.m3_text.specs.declared.refusal.Why.TheVariants as why
use Rattle.m3_text.specs.Number.{number}
use Rattle.m3_text.specs.Refusable.{◌>>=◌}
use Rattle.m3_text.specs.LineForm.{word, matches}

unfoldable pub credit_line_of : List (List ℕ) → Result AuditLine Why
credit_line_of ws = do
  g ← number 1 4096 (word 2 ws)
  held ← number 0 4294967295 (word 4 ws)
  flying ← number 0 4294967295 (word 6 ws)
  queued ← number 0 4294967295 (word 8 ws)
  limit ← number 0 4294967295 (word 10 ws)
  Ok (AuditLine.Credit g held flying queued limit)

unfoldable pub tile_line_of : List (List ℕ) → Result AuditLine Why
tile_line_of ws = do
  tile ← number 0 15 (word 2 ws)
  act ← number 0 63 (word 4 ws)
  Ok (AuditLine.Tile tile (Some act))

unfoldable pub empty_tile_line_of : List (List ℕ) → Result AuditLine Why
empty_tile_line_of ws = do
  tile ← number 0 15 (word 2 ws)
  Ok (AuditLine.Tile tile None)

unfoldable pub flights_line_of : List (List ℕ) → Result AuditLine Why
flights_line_of ws = do
  count ← number 0 4294967295 (word 2 ws)
  Ok (AuditLine.Flights count)

unfoldable pub audit_line_of : List (List ℕ) → Result AuditLine Why
audit_line_of ws =
    if matches (codes "audit" ∷ codes "credit" ∷ [] ∷ codes "held" ∷ [] ∷ codes "flying" ∷ [] ∷ codes "queued" ∷ [] ∷ codes "limit" ∷ [] ∷ []) ws then credit_line_of ws
    else if matches (codes "audit" ∷ codes "tile" ∷ [] ∷ codes "act" ∷ [] ∷ []) ws then tile_line_of ws
    else if matches (codes "audit" ∷ codes "tile" ∷ [] ∷ codes "none" ∷ []) ws then empty_tile_line_of ws
    else if matches (codes "audit" ∷ codes "flights" ∷ [] ∷ []) ws then flights_line_of ws
    else if matches (codes "audit" ∷ codes "quiet" ∷ codes "yes" ∷ []) ws then Ok (AuditLine.Quiet true)
    else if matches (codes "audit" ∷ codes "quiet" ∷ codes "no" ∷ []) ws then Ok (AuditLine.Quiet false)
    else Err why.Form
