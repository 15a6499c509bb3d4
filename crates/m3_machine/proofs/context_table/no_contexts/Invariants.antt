use Rattle.std.proofs.Common.{◌≡◌, replicate, None}
use Rattle.m3_machine.proofs.context_table.no_contexts.Given as goal

abbrev pub invariant-loop : goal.invariant-loop
invariant-loop l = l.contexts.items ≡ replicate l.counter None
