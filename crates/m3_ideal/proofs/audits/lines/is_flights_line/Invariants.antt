use Rattle.std.proofs.Common.{◌≡◌, ◌++◌, drop}
use Rattle.m3_base.specs.Journal.Legal.{only_flights}
use Rattle.m3_ideal.proofs.AuditLines.{so_far}
use Rattle.m3_ideal.proofs.audits.lines.is_flights_line.Given as goal

abbrev pub invariant-loop-line : goal.invariant-loop-line
invariant-loop-line l = only_flights l.lines ≡ so_far l.found l.flights ++ only_flights (drop l.line-index l.lines)
