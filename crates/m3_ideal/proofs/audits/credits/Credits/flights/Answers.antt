use Rattle.std.proofs.Common.{◌+◌, ◌∙◌, List, Option, drop, ap, subst}
use Rattle.std.proofs.Math.ListN.{drop_of_length-le}
use Rattle.m3_base.specs.declared.packet.Packet.{Packet}
use Rattle.m3_ideal.specs.Tables.{present}
use Rattle.m3_ideal.specs.Lanes.{flights_in, lane_of, lanes_of}
use Rattle.m3_ideal.specs.Check.AuditCounts.{CountsFlights}
use Rattle.m3_ideal.proofs.AuditCounts.{left_first, left_more, left_end, flights_none, flights_both, next_of, present_split}
use Rattle.m3_ideal.proofs.audits.credits.Credits.flights.Goals as goal

pub loop-lane-init : goal.loop-lane-init
loop-lane-init c = left_first (CountsFlights c.args.contexts.now) (flights_in (lanes_of c.args.lanes.now)) c.args.self.now

pub loop-lane-preserved : goal.loop-lane-preserved
loop-lane-preserved c =
    let cs = c.args.contexts.now in
    let ls = c.args.lanes.now in
    let i = c.loop-lane.lane-index in
    let x = c.lane-item.result in
    left_more (CountsFlights cs) (flights_both cs) (flights_in (lanes_of ls)) (flights_in (lanes_of (drop i ls))) (present (lane_of x)) (flights_in (lanes_of (drop (i + 1) ls))) c.args.self.now c.loop-lane.self c.lane.new.self
    (ap (λ l. flights_in (lanes_of l)) (next_of ls i x c.loop-lane-test.true c.lane-item.is) ∙ present_split (lane_of x) (flights_in (lanes_of (drop (i + 1) ls))))
    c.loop-lane.invariant (subst (λ (t : List (Option Packet)). CountsFlights cs (present t) c.loop-lane.self c.lane.new.self) c.flights.ensures c.in_ok-lane.ensures)

pub returns : goal.returns
returns c =
    let cs = c.args.contexts.now in
    let ls = c.args.lanes.now in
    let i = c.loop-lane.lane-index in
    left_end (CountsFlights cs) (flights_none cs) (flights_in (lanes_of ls)) (flights_in (lanes_of (drop i ls))) c.args.self.now c.loop-lane.self
    (ap (λ l. flights_in (lanes_of l)) (drop_of_length-le ls c.loop-lane-test.false)) c.loop-lane.invariant
