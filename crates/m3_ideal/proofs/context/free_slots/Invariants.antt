use Rattle.std.proofs.Common.{◌≡◌, replicate}
use Rattle.m3_base.specs.Ideal.Context.{Free}
use Rattle.m3_ideal.proofs.context.free_slots.Given as goal

abbrev pub invariant-loop : goal.invariant-loop
invariant-loop l = l.slots.items ≡ replicate l.counter Free
