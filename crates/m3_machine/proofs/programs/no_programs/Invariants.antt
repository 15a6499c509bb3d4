use Rattle.std.proofs.Common.{◌≡◌, replicate, None}
use Rattle.m3_machine.proofs.programs.no_programs.Given as goal

abbrev pub invariant-loop : goal.invariant-loop
invariant-loop g l = l.table.items ≡ replicate l.counter None
