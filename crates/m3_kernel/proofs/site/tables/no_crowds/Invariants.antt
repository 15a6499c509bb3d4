use Rattle.std.proofs.Common.{◌≡◌, replicate}
use Rattle.m3_kernel.proofs.site.tables.no_crowds.Given as goal

abbrev pub invariant-loop : goal.invariant-loop
invariant-loop l = l.crowds.items ≡ replicate l.counter 0
