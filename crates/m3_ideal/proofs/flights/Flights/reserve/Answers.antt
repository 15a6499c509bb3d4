use Rattle.std.proofs.Common.{rules}
use Rattle.m3_ideal.proofs.FlightTables.{ReadsLane, roomy_list, roomy_nexts, roomy_lanes, roomy_if}
use Rattle.m3_ideal.proofs.flights.Flights.reserve.Goals as goal

pub invariant_of-self : goal.invariant_of-self
invariant_of-self c =
    let r : ReadsLane c.self.inside.lanes.items c.args.self.now c.from-at.result c.index_mut.result.now = record { sound = c.self.invariant; value = c.self.view_is; range = search rules; item = c.index_mut.ensures.value } in
    roomy_lanes _ _ _ _ c.reserve.new.self r c.reserve.ensures.same

pub returns-clause-list : goal.returns-clause-list
returns-clause-list c =
    let r : ReadsLane c.self.inside.lanes.items c.args.self.now c.from-at.result c.index_mut.result.now = record { sound = c.self.invariant; value = c.self.view_is; range = search rules; item = c.index_mut.ensures.value } in
    roomy_list _ _ _ _ c.reserve.new.self r c.reserve.ensures.same

pub returns-clause-nexts : goal.returns-clause-nexts
returns-clause-nexts c =
    let r : ReadsLane c.self.inside.lanes.items c.args.self.now c.from-at.result c.index_mut.result.now = record { sound = c.self.invariant; value = c.self.view_is; range = search rules; item = c.index_mut.ensures.value } in
    roomy_nexts _ _ _ _ c.reserve.new.self r c.reserve.ensures.same

pub returns-clause-room : goal.returns-clause-room
returns-clause-room c =
    let r : ReadsLane c.self.inside.lanes.items c.args.self.now c.from-at.result c.index_mut.result.now = record { sound = c.self.invariant; value = c.self.view_is; range = search rules; item = c.index_mut.ensures.value } in
    roomy_if _ _ _ _ c.reserve.new.self c.args.issuer c.reserve.result r (search rules) c.reserve.ensures.room
