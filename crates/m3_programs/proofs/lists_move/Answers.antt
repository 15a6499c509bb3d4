use Rattle.m3_programs.proofs.ListsMove.{lists_move}
use Rattle.m3_programs.proofs.lists_move.Goals as goal

pub returns : goal.returns
returns c = lists_move
