use Rattle.std.proofs.Common.{drop}
use Rattle.m3_ideal.proofs.AuditCounts.{Left, Owed}
use Rattle.m3_ideal.proofs.audits.contexts.count_fetched.Given as goal

abbrev pub invariant-loop-message : goal.invariant-loop-message
invariant-loop-message l = Left Owed l.fetched (drop l.message-index l.fetched) l.fn.queued l.queued
