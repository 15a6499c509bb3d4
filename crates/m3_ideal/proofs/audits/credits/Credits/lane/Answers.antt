use Rattle.std.proofs.Common.{◌+◌, ◌∷◌, [], drop, ap}
use Rattle.std.proofs.Math.ListN.{drop_of_length-le}
use Rattle.m3_ideal.specs.Tables.{present}
use Rattle.m3_ideal.specs.Check.AuditCounts.{CountsFlights}
use Rattle.m3_ideal.proofs.AuditCounts.{left_first, left_more, left_end, flights_none, flights_both, next_present}
use Rattle.m3_ideal.proofs.audits.credits.Credits.lane.Goals as goal

pub loop-place-init : goal.loop-place-init
loop-place-init c = left_first (CountsFlights c.args.contexts.now) (present c.args.lane.now) c.args.self.now

pub loop-place-preserved : goal.loop-place-preserved
loop-place-preserved c =
    let cs = c.args.contexts.now in
    let ts = c.args.lane.now in
    let i = c.loop-place.place-index in
    let t = c.place-item.result in
    left_more (CountsFlights cs) (flights_both cs) (present ts) (present (drop i ts)) (present (t ∷ [])) (present (drop (i + 1) ts)) c.args.self.now c.loop-place.self c.number.new.self
    (next_present ts i t c.loop-place-test.true c.place-item.is) c.loop-place.invariant c.in_ok-number.ensures

pub returns : goal.returns
returns c =
    let cs = c.args.contexts.now in
    let ts = c.args.lane.now in
    let i = c.loop-place.place-index in
    left_end (CountsFlights cs) (flights_none cs) (present ts) (present (drop i ts)) c.args.self.now c.loop-place.self (ap present (drop_of_length-le ts c.loop-place-test.false)) c.loop-place.invariant
