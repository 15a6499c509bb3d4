use Rattle.std.proofs.Common.{drop}
use Rattle.m3_ideal.specs.Tables.{present}
use Rattle.m3_ideal.specs.Check.AuditCounts.{CountsFlights}
use Rattle.m3_ideal.proofs.AuditCounts.{Left}
use Rattle.m3_ideal.proofs.audits.credits.Credits.lane.Given as goal

abbrev pub invariant-loop-place : goal.invariant-loop-place
invariant-loop-place l = Left (CountsFlights l.contexts) (present l.lane) (present (drop l.place-index l.lane)) l.fn.self l.self
