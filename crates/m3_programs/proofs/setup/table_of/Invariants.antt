use Rattle.std.proofs.Common.{take}
use Rattle.m3_programs.specs.SetupPrograms.{IsTableOf}
use Rattle.m3_programs.proofs.setup.table_of.Given as goal

abbrev pub invariant-loop-line : goal.invariant-loop-line
invariant-loop-line l = IsTableOf l.table.items (take l.line-index l.lines)
