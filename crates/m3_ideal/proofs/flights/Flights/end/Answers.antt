use Rattle.std.proofs.Common.{rules}
use Rattle.m3_ideal.proofs.FlightTables.{ReadsLane, flight_past, ended_past, found_at, ended_list, ended_lanes, ended_nexts}
use Rattle.m3_ideal.proofs.flights.Flights.end.Goals as goal

pub returns-then-at-len-clause-old : goal.returns-then-at-len-clause-old
returns-then-at-len-clause-old c = flight_past c.self.inside.lanes.items c.args.self.now c.args.id c.self.invariant c.self.view_is (search rules)

pub returns-then-at-len-clause-list : goal.returns-then-at-len-clause-list
returns-then-at-len-clause-list c = ended_past c.self.inside.lanes.items c.args.self.now c.args.id c.self.invariant c.self.view_is (search rules)

pub invariant_of-self : goal.invariant_of-self
invariant_of-self c =
    let r : ReadsLane c.self.inside.lanes.items c.args.self.now c.from-at.result c.index_mut.result.now = record { sound = c.self.invariant; value = c.self.view_is; range = search rules; item = c.index_mut.ensures.value } in
    ended_lanes _ _ _ _ c.end.new.self c.args.id r (search rules) c.end.ensures.new

pub returns-clause-old : goal.returns-clause-old
returns-clause-old c =
    let r : ReadsLane c.self.inside.lanes.items c.args.self.now c.from-at.result c.index_mut.result.now = record { sound = c.self.invariant; value = c.self.view_is; range = search rules; item = c.index_mut.ensures.value } in
    found_at _ _ _ _ c.args.id c.end.result r (search rules) c.end.ensures.old

pub returns-clause-list : goal.returns-clause-list
returns-clause-list c =
    let r : ReadsLane c.self.inside.lanes.items c.args.self.now c.from-at.result c.index_mut.result.now = record { sound = c.self.invariant; value = c.self.view_is; range = search rules; item = c.index_mut.ensures.value } in
    ended_list _ _ _ _ c.end.new.self c.args.id r (search rules) c.end.ensures.new

pub returns-clause-nexts : goal.returns-clause-nexts
returns-clause-nexts c =
    let r : ReadsLane c.self.inside.lanes.items c.args.self.now c.from-at.result c.index_mut.result.now = record { sound = c.self.invariant; value = c.self.view_is; range = search rules; item = c.index_mut.ensures.value } in
    ended_nexts _ _ _ _ c.end.new.self c.args.id r c.end.ensures.new
