use Rattle.std.proofs.Common.{arith}
use Rattle.m3_base.specs.Ideal.Credits.{queued_at}
use Rattle.m3_core.proofs.SumPush.{total_more}
use Rattle.m3_core.proofs.context.counts.queued_in.Goals as goal

pub loop-slot-preserved : goal.loop-slot-preserved
loop-slot-preserved c =
    let more = total_more (queued_at c.args.grant) c.args.slots.now c.loop-slot.slot-index _ _ c.loop-slot-test.true c.slot-item.is in
    (grind (arith, more, c.loop-slot.invariant.0, c.queued-count.ensures.count), omega (arith, c.loop-slot.invariant.1, c.queued-count.ensures.range))
