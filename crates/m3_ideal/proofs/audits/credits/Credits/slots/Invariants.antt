use Rattle.std.proofs.Common.{drop}
use Rattle.m3_ideal.specs.Check.AuditCounts.{CountsEndpoints}
use Rattle.m3_ideal.proofs.AuditCounts.{Left}
use Rattle.m3_ideal.proofs.audits.credits.Credits.slots.Given as goal

abbrev pub invariant-loop-slot : goal.invariant-loop-slot
invariant-loop-slot l = Left CountsEndpoints l.slots (drop l.slot-index l.slots) l.fn.self l.self
