use Rattle.std.proofs.Common.{ap, ◌∙◌, ◌≡◌, None, rules}
use Rattle.std.specs.Prelude.{slice_index_or}
use Rattle.m3_base.specs.Ideal.Flights.{name_of}
use Rattle.m3_ideal.specs.Lanes.{lane_of, swapped}
use Rattle.m3_ideal.proofs.FlightTables.{ReadsLane, flight_past, swapped_past, found_at, swapped_list, swapped_lanes, swapped_nexts}
use Rattle.m3_ideal.proofs.flights.Flights.swap.Goals as goal

pub returns-then-at-len-clause-old : goal.returns-then-at-len-clause-old
returns-then-at-len-clause-old c = flight_past c.self.inside.lanes.items c.args.self.now (name_of c.args.by) c.self.invariant c.self.view_is (search rules)

pub returns-then-at-len-clause-list : goal.returns-then-at-len-clause-list
returns-then-at-len-clause-list c = swapped_past c.self.inside.lanes.items c.args.self.now c.args.by c.self.invariant c.self.view_is (search rules)

pub invariant_of-self : goal.invariant_of-self
invariant_of-self c =
    let r : ReadsLane c.self.inside.lanes.items c.args.self.now c.from-at.result c.index_mut.result.now = record { sound = c.self.invariant; value = c.self.view_is; range = search rules; item = c.index_mut.ensures.value } in
    let here : c.from-at.result ≡ (name_of c.args.by).issuer = search rules in
    let same : c.id-id.result.number ≡ (name_of c.args.by).number = ap (λ z. z.number) c.id-id.ensures in
    swapped_lanes _ _ _ _ c.swap.new.self c.args.by c.swap.result r here (c.swap.ensures.new ∙ ap (λ n. swapped c.swap.result n c.args.by (lane_of c.index_mut.result.now)) same)

pub returns-clause-old : goal.returns-clause-old
returns-clause-old c =
    let r : ReadsLane c.self.inside.lanes.items c.args.self.now c.from-at.result c.index_mut.result.now = record { sound = c.self.invariant; value = c.self.view_is; range = search rules; item = c.index_mut.ensures.value } in
    let here : c.from-at.result ≡ (name_of c.args.by).issuer = search rules in
    let same : c.id-id.result.number ≡ (name_of c.args.by).number = ap (λ z. z.number) c.id-id.ensures in
    found_at _ _ _ _ (name_of c.args.by) c.swap.result r here (c.swap.ensures.old ∙ ap (λ n. slice_index_or (lane_of c.index_mut.result.now) n None) same)

pub returns-clause-list : goal.returns-clause-list
returns-clause-list c =
    let r : ReadsLane c.self.inside.lanes.items c.args.self.now c.from-at.result c.index_mut.result.now = record { sound = c.self.invariant; value = c.self.view_is; range = search rules; item = c.index_mut.ensures.value } in
    let here : c.from-at.result ≡ (name_of c.args.by).issuer = search rules in
    let same : c.id-id.result.number ≡ (name_of c.args.by).number = ap (λ z. z.number) c.id-id.ensures in
    swapped_list _ _ _ _ c.swap.new.self c.args.by c.swap.result r here (c.swap.ensures.old ∙ ap (λ n. slice_index_or (lane_of c.index_mut.result.now) n None) same) (c.swap.ensures.new ∙ ap (λ n. swapped c.swap.result n c.args.by (lane_of c.index_mut.result.now)) same)

pub returns-clause-nexts : goal.returns-clause-nexts
returns-clause-nexts c =
    let r : ReadsLane c.self.inside.lanes.items c.args.self.now c.from-at.result c.index_mut.result.now = record { sound = c.self.invariant; value = c.self.view_is; range = search rules; item = c.index_mut.ensures.value } in
    let same : c.id-id.result.number ≡ (name_of c.args.by).number = ap (λ z. z.number) c.id-id.ensures in
    swapped_nexts _ _ _ _ c.swap.new.self c.args.by c.swap.result r (c.swap.ensures.new ∙ ap (λ n. swapped c.swap.result n c.args.by (lane_of c.index_mut.result.now)) same)
