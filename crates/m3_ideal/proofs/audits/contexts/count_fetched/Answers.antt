use Rattle.std.proofs.Common.{◌+◌, ◌∷◌, [], drop}
use Rattle.std.proofs.Math.ListN.{drop_of_length-le}
use Rattle.m3_ideal.proofs.AuditCounts.{Owed, left_first, left_more, left_end, owed_none, owed_both, owed_one, next_of}
use Rattle.m3_ideal.proofs.audits.contexts.count_fetched.Goals as goal

pub loop-message-init : goal.loop-message-init
loop-message-init c = left_first Owed c.args.fetched.now c.args.queued.now

pub loop-message-preserved : goal.loop-message-preserved
loop-message-preserved c =
    let xs = c.args.fetched.now in
    let i = c.loop-message.message-index in
    let x = c.message-item.result in
    left_more Owed owed_both xs (drop i xs) (x ∷ []) (drop (i + 1) xs) c.args.queued.now c.loop-message.queued c.count_owed.new.queued
    (next_of xs i x c.loop-message-test.true c.message-item.is) c.loop-message.invariant (owed_one x c.loop-message.queued c.count_owed.new.queued c.in_ok-count_owed.ensures)

pub returns : goal.returns
returns c =
    let xs = c.args.fetched.now in
    let i = c.loop-message.message-index in
    left_end Owed owed_none xs (drop i xs) c.args.queued.now c.loop-message.queued (drop_of_length-le xs c.loop-message-test.false) c.loop-message.invariant
