use Rattle.std.proofs.Common.{drop}
use Rattle.m3_ideal.specs.Lanes.{flights_in, lanes_of}
use Rattle.m3_ideal.specs.Check.AuditCounts.{CountsFlights}
use Rattle.m3_ideal.proofs.AuditCounts.{Left}
use Rattle.m3_ideal.proofs.audits.credits.Credits.flights.Given as goal

abbrev pub invariant-loop-lane : goal.invariant-loop-lane
invariant-loop-lane l =
    Left (CountsFlights l.contexts) (flights_in (lanes_of l.lanes)) (flights_in (lanes_of (drop l.lane-index l.lanes))) l.fn.self l.self
