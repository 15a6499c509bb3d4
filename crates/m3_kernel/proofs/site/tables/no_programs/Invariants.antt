use Rattle.std.proofs.Common.{◌≡◌, replicate, false}
use Rattle.m3_kernel.proofs.site.tables.no_programs.Given as goal

abbrev pub invariant-loop : goal.invariant-loop
invariant-loop l = l.programs.items ≡ replicate l.counter false
