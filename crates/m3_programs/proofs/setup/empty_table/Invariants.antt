use Rattle.std.proofs.Common.{◌≡◌, replicate, []}
use Rattle.m3_programs.specs.SetupPrograms.{list_of}
use Rattle.m3_programs.proofs.setup.empty_table.Given as goal

abbrev pub invariant-loop : goal.invariant-loop
invariant-loop l = l.table.items ≡ replicate l.counter (list_of [])
