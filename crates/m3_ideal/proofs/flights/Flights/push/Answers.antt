use Rattle.std.proofs.Common.{ap, sym, ◌∙◌, ◌≡◌, rules}
use Rattle.std.specs.Prelude.{◌+◌, slice_index_or, slice_set}
use Rattle.m3_base.specs.Ideal.Flights.{name_of}
use Rattle.m3_ideal.proofs.FlightTables.{ReadsLane, pushed_list, pushed_lanes, pushed_nexts}
use Rattle.m3_ideal.proofs.flights.Flights.push.Goals as goal

pub invariant_of-self : goal.invariant_of-self
invariant_of-self c =
    let r : ReadsLane c.self.inside.lanes.items c.args.self.now c.from-at.result c.index_mut.result.now = record { sound = c.self.invariant; value = c.self.view_is; range = search rules; item = c.index_mut.ensures.value } in
    let here : c.from-at.result ≡ (name_of c.args.flight).issuer = search rules in
    pushed_lanes _ _ _ _ c.push.new.self c.args.flight r here (c.requires.next ∙ ap (λ i. slice_index_or c.args.self.now.nexts i 0) (sym here)) c.push.ensures

pub returns-clause-list : goal.returns-clause-list
returns-clause-list c =
    let r : ReadsLane c.self.inside.lanes.items c.args.self.now c.from-at.result c.index_mut.result.now = record { sound = c.self.invariant; value = c.self.view_is; range = search rules; item = c.index_mut.ensures.value } in
    let here : c.from-at.result ≡ (name_of c.args.flight).issuer = search rules in
    pushed_list _ _ _ _ c.push.new.self c.args.flight r here (c.requires.next ∙ ap (λ i. slice_index_or c.args.self.now.nexts i 0) (sym here)) c.push.ensures

pub returns-clause-nexts : goal.returns-clause-nexts
returns-clause-nexts c =
    let r : ReadsLane c.self.inside.lanes.items c.args.self.now c.from-at.result c.index_mut.result.now = record { sound = c.self.invariant; value = c.self.view_is; range = search rules; item = c.index_mut.ensures.value } in
    let here : c.from-at.result ≡ (name_of c.args.flight).issuer = search rules in
    pushed_nexts _ _ _ _ c.push.new.self c.args.flight r (c.requires.next ∙ ap (λ i. slice_index_or c.args.self.now.nexts i 0) (sym here)) c.push.ensures
    ∙ ap (λ i. slice_set c.args.self.now.nexts i ((name_of c.args.flight).number + 1)) here
