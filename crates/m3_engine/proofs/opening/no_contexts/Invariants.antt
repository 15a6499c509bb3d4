use Rattle.std.proofs.Common.{◌≡◌, replicate, None}
use Rattle.m3_engine.proofs.opening.no_contexts.Given as goal

abbrev pub invariant-loop : goal.invariant-loop
invariant-loop l = l.table.items ≡ replicate l.counter None
