-- A tile as plain data: its current activity's context, and each resident.
use Rattle.std.specs.Prelude.{ℕ, Bool, List, [], Option}
use Rattle.m3_base.specs.declared.command.Reply.{Reply}
use Rattle.m3_base.specs.Ideal.Context.{Context}

-- ---- tiles

-- what the program sees at its next move
pub data Seen : Type 0 where
  First : Seen
  Awake : Seen
  Got : Reply → Seen
  -- the answer to the command of this number, which flies
  Waits : ℕ → Seen

-- an activity as its home tile has it, be it there or not
pub record Resident : Type 0 where
  pub act : ℕ
  -- the Await that has no unread message yet
  pub pending : Option ℕ
  pub ended : Bool
  -- of this stay on the tile: the Do moves, and whether its Yield was sent
  pub moves : ℕ
  pub yield_sent : Bool
  pub seen : Seen

pub record Tile : Type 0 where
  pub tile : ℕ
  pub current : Option Context
  pub stays : List Resident
