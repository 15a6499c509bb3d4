use Rattle.std.proofs.Common.{drop}
use Rattle.m3_ideal.specs.Tables.{present}
use Rattle.m3_ideal.specs.Check.AuditCounts.{CountsContexts}
use Rattle.m3_ideal.proofs.AuditCounts.{Left}
use Rattle.m3_ideal.proofs.audits.credits.Credits.contexts.Given as goal

abbrev pub invariant-loop-place : goal.invariant-loop-place
invariant-loop-place l = Left CountsContexts (present l.table) (present (drop l.place-index l.table)) l.fn.self l.self
