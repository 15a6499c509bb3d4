use Rattle.std.proofs.Common.{drop}
use Rattle.m3_base.specs.Lists.Counting.{total}
use Rattle.m3_base.specs.Ideal.Credits.{held_at, queued_at}
use Rattle.m3_endpoint.proofs.CounterSums.{Left}
use Rattle.m3_core.proofs.context.counts.count_slots.Given as goal

abbrev pub invariant-loop-slot : goal.invariant-loop-slot
invariant-loop-slot l = record {
  held : Left (λ g. total (held_at g) l.slots) (λ g. total (held_at g) (drop l.slot-index l.slots)) l.fn.held l.held;
  queued : Left (λ g. total (queued_at g) l.slots) (λ g. total (queued_at g) (drop l.slot-index l.slots)) l.fn.queued l.queued;
}
