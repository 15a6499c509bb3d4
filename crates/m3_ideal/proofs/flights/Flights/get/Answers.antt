use Rattle.std.proofs.Common.{rules}
use Rattle.std.specs.Prelude.{option_copied}
use Rattle.m3_ideal.proofs.FlightTables.{ReadsLane, flight_past, found_at}
use Rattle.m3_ideal.proofs.flights.Flights.get.Goals as goal

pub returns-then-at-len : goal.returns-then-at-len
returns-then-at-len c = flight_past c.self.inside.lanes.items c.args.self.now c.args.id c.self.invariant c.self.view_is (search rules)

pub returns : goal.returns
returns c =
    let r : ReadsLane c.self.inside.lanes.items c.args.self.now c.from-at.result c.index.result.now = record { sound = c.self.invariant; value = c.self.view_is; range = search rules; item = c.index.ensures } in
    found_at _ _ _ _ c.args.id (option_copied c.get.result) r (search rules) c.get.ensures
