use Rattle.m3_base.specs.Lists.Counting.{total}
use Rattle.m3_base.specs.Ideal.Credits.{held_at, queued_at}
use Rattle.m3_endpoint.proofs.CounterSums.{left_next, left_past}
use Rattle.m3_core.proofs.context.counts.count_slots.Goals as goal

pub loop-slot-preserved : goal.loop-slot-preserved
loop-slot-preserved c =
    let xs = c.args.slots.now in
    let i = c.loop-slot.slot-index in
    record {
      held = left_next held_at (λ g. total (held_at g) xs) xs i c.args.held.now c.loop-slot.held c.slot-item.result c.count.new.held c.loop-slot-test.true c.slot-item.is c.loop-slot.invariant.held c.count.ensures.held;
      queued = left_next queued_at (λ g. total (queued_at g) xs) xs i c.args.queued.now c.loop-slot.queued c.slot-item.result c.count.new.queued c.loop-slot-test.true c.slot-item.is c.loop-slot.invariant.queued c.count.ensures.queued;
    }

pub returns-clause-held : goal.returns-clause-held
returns-clause-held c =
    left_past held_at (λ g. total (held_at g) c.args.slots.now) c.args.slots.now c.loop-slot.slot-index c.args.held.now c.loop-slot.held c.loop-slot-test.false c.loop-slot.invariant.held

pub returns-clause-queued : goal.returns-clause-queued
returns-clause-queued c =
    left_past queued_at (λ g. total (queued_at g) c.args.slots.now) c.args.slots.now c.loop-slot.slot-index c.args.queued.now c.loop-slot.queued c.loop-slot-test.false c.loop-slot.invariant.queued
