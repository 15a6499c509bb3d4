-- No stay has made more Do moves than the journal has entries.
use Rattle.std.specs.Prelude.{ℕ, ◌≤◌}
use Rattle.m3_base.specs.Lists.EachElement.{Each}
use Rattle.m3_model.specs.Tile.State.{Tile}
use Rattle.m3_model.specs.Machine.{Machine}

-- where the journal has n entries
abbrev pub HasFewMoves : ℕ → Tile → Type 0
HasFewMoves n t = Each (λ y. y.moves ≤ n) t.stays

abbrev pub StaysAreShort : ℕ → Machine → Type 0
StaysAreShort n m = Each (HasFewMoves n) m.tiles
