-- A list program as contracts see it: its items, and how many of them were made.
use Rattle.std.specs.Prelude.{◌≡◌, ℕ, ◌≤◌, true, List, length}
use Rattle.std.specs.List.{All}
use Rattle.m3_base.specs.declared.program.Move.{Move}
use Rattle.m3_base.specs.Programs.{is_short_move}
use Rattle.m3_programs.specs.declared.list.ListProgram.TheInside.{Inside}

pub record ListState : Type 0 where
  pub items : List Move
  pub made : ℕ

abbrev pub list_state : Inside → ListState
list_state p = record { items = p.items.items; made = p.made }

-- a payload has at most 8,192 bytes
abbrev pub IsShort : Move → Type 0
IsShort m = is_short_move m ≡ true

pub record IsListState (p : Inside) : Type 0 where
  pub short : All IsShort p.items.items
  pub made : p.made ≤ length p.items.items
