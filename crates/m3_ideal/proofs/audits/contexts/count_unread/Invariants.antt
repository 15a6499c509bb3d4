use Rattle.std.proofs.Common.{◌++◌}
use Rattle.m3_ideal.proofs.AuditCounts.{Left, Sent}
use Rattle.m3_ideal.proofs.audits.contexts.count_unread.Given as goal

abbrev pub invariant-loop-letter : goal.invariant-loop-letter
invariant-loop-letter l = Left Sent l.fn.unread.items (l.letter-iterator.head.now ++ l.letter-iterator.wrapped.now) l.fn.queued l.queued
