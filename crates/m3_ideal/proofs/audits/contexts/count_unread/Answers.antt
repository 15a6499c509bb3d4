use Rattle.std.proofs.Common.{◌∷◌, [], ◌++◌}
use Rattle.m3_ideal.proofs.AuditCounts.{Sent, left_more, left_end, sent_none, sent_both, sent_one, nothing_left}
use Rattle.m3_ideal.proofs.audits.contexts.count_unread.Goals as goal

pub loop-letter-preserved : goal.loop-letter-preserved
loop-letter-preserved c =
    left_more Sent sent_both c.args.unread.now.items (c.loop-letter.letter-iterator.head.now ++ c.loop-letter.letter-iterator.wrapped.now) (c.in-Some.letter.now ∷ []) (c.next.new.self.head.now ++ c.next.new.self.wrapped.now) c.args.queued.now c.loop-letter.queued c.count_letter.new.queued
    c.in-Some.ensures.steps c.loop-letter.invariant (sent_one c.in-Some.letter.now c.loop-letter.queued c.count_letter.new.queued c.in_ok-count_letter.ensures)

pub returns : goal.returns
returns c =
    left_end Sent sent_none c.args.unread.now.items (c.loop-letter.letter-iterator.head.now ++ c.loop-letter.letter-iterator.wrapped.now) c.args.queued.now c.loop-letter.queued (nothing_left (c.loop-letter.letter-iterator.head.now ++ c.loop-letter.letter-iterator.wrapped.now) c.in-None.ensures.steps.0) c.loop-letter.invariant
