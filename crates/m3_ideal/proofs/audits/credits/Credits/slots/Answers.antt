use Rattle.std.proofs.Common.{◌+◌, ◌∷◌, [], drop}
use Rattle.std.proofs.Math.ListN.{drop_of_length-le}
use Rattle.m3_ideal.specs.Check.AuditCounts.{CountsEndpoints}
use Rattle.m3_ideal.proofs.AuditCounts.{left_first, left_more, left_end, endpoints_none, endpoints_both, next_of}
use Rattle.m3_ideal.proofs.audits.credits.Credits.slots.Goals as goal

pub loop-slot-init : goal.loop-slot-init
loop-slot-init c = left_first CountsEndpoints c.args.slots.now c.args.self.now

pub loop-slot-preserved : goal.loop-slot-preserved
loop-slot-preserved c =
    let xs = c.args.slots.now in
    let i = c.loop-slot.slot-index in
    let x = c.slot-item.result in
    left_more CountsEndpoints endpoints_both xs (drop i xs) (x ∷ []) (drop (i + 1) xs) c.args.self.now c.loop-slot.self c.slot.new.self
    (next_of xs i x c.loop-slot-test.true c.slot-item.is) c.loop-slot.invariant c.in_ok-slot.ensures

pub returns : goal.returns
returns c =
    let xs = c.args.slots.now in
    let i = c.loop-slot.slot-index in
    left_end CountsEndpoints endpoints_none xs (drop i xs) c.args.self.now c.loop-slot.self (drop_of_length-le xs c.loop-slot-test.false) c.loop-slot.invariant
