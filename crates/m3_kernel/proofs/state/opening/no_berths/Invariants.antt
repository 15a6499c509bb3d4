use Rattle.std.proofs.Common.{◌≡◌, replicate}
use Rattle.m3_kernel.specs.LookupTables.{empty_berth}
use Rattle.m3_kernel.proofs.state.opening.no_berths.Given as goal

abbrev pub invariant-loop : goal.invariant-loop
invariant-loop l = l.berths.items ≡ replicate l.counter empty_berth
