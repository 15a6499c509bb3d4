-- List programs never get stuck.
use Rattle.std.specs.Prelude.{ℕ, List}
use Rattle.m3_base.specs.declared.program.Move.{Move}
use Rattle.m3_base.specs.declared.program.Seen.{Seen}
use Rattle.m3_programs.specs.ItemMoves.{ItemMoves}

-- from each meaning, whatever it sees, a program of these items has a move
abbrev pub ListsMove : Type 0
ListsMove = (items : List Move) (old : List ℕ) (seen : Seen) → (move : Move) × (new : List ℕ) × ItemMoves items old seen move new
