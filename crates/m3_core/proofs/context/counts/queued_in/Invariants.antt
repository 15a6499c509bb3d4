use Rattle.std.proofs.Common.{◌≡◌, ◌≤◌, ◌*◌, take}
use Rattle.m3_base.specs.Lists.Counting.{total}
use Rattle.m3_base.specs.Ideal.Credits.{queued_at}
use Rattle.m3_core.proofs.context.counts.queued_in.Given as goal

abbrev pub invariant-loop-slot : goal.invariant-loop-slot
invariant-loop-slot l = (l.count ≡ total (queued_at l.grant) (take l.slot-index l.slots)) × (l.count ≤ 32 * l.slot-index)
