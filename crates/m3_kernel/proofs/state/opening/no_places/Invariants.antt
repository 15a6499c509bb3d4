use Rattle.std.proofs.Common.{◌≡◌, replicate, None}
use Rattle.m3_kernel.proofs.state.opening.no_places.Given as goal

abbrev pub invariant-loop : goal.invariant-loop
invariant-loop l = l.index.items ≡ replicate l.counter None
