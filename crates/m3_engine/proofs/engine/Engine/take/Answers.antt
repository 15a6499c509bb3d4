use Rattle.std.proofs.Common.{◌≡◌, ◌++◌, List, None, Some, sym, ap, subst, ◌∙◌}
use Rattle.m3_base.specs.declared.event.Event.{Event}
use Rattle.m3_base.specs.declared.event.Outcome.{Outcome}
use Rattle.m3_core.specs.declared.parcel.Parcel.{Parcel as CodeParcel}
use Rattle.m3_link.specs.LinkOps.{place, list_at, first, with_popped, put_back}
use Rattle.m3_model.specs.Config.Site.{Site}
use Rattle.m3_model.specs.Invariant.Housing.{IsSetup}
use Rattle.m3_kernel.specs.ParcelView.{parcels_of, out_of}
use Rattle.m3_engine.specs.PartsView.{parts_of, linked}
use Rattle.m3_engine.specs.EngineView.{EngineAt, engine_at, Makes, out_links}
use Rattle.m3_engine.proofs.PartStep.{takes, takes_nothing, popped_none, as_before}
use Rattle.m3_engine.proofs.engine.Engine.take.Goals as goal

pub invariant_of-self-in-Ok : goal.invariant_of-self-in-Ok
invariant_of-self-in-Ok c = record {
  setup = subst (λ (h : Site). IsSetup h) (sym (c.in-Ok.ensures.ok 0).site) c.self.invariant.setup;
  parts = c.in-Ok.ensures.parts;
}

pub returns-in-None-clause-ok : goal.returns-in-None-clause-ok
returns-in-None-clause-ok c =
    let p = parts_of c.self.inside.parts in
    let ls = c.self.inside.wires.lists in
    let k = place c.args.from c.args.to in
    let none : first (list_at ls k) ≡ None = ap (λ l. first (list_at l k)) (sym c.reserve_from.ensures.lists) ∙ sym c.take.ensures.answer ∙ c.in-None.is in
    let same : c.take.new.self.lists ≡ ls = c.take.ensures.lists ∙ ap (λ l. with_popped l k) c.reserve_from.ensures.lists ∙ popped_none ls k none in
    subst (λ (e : EngineAt). Makes e (Event.Take c.args.to c.args.from) c.idle.result (record { site = p.site; machine = linked (parcels_of c.take.new.self.lists) p })) c.self.view_is (
    subst (λ (l : List (List CodeParcel)). Makes (engine_at c.self.inside) (Event.Take c.args.to c.args.from) c.idle.result (record { site = p.site; machine = linked (parcels_of l) p })) (sym same) (
    takes_nothing p ls c.args.to c.args.from none c.idle.result c.idle.ensures
    )
    )

pub returns-in-Ok-clause-ok : goal.returns-in-Ok-clause-ok
returns-in-Ok-clause-ok c =
    let p = parts_of c.self.inside.parts in
    let ls = c.self.inside.wires.lists in
    let k = place c.args.from c.args.to in
    let out = out_of c.in-Ok.done.first ++ out_of c.in-Ok.done.second in
    let front : first (list_at ls k) ≡ Some c.in-Some.parcel = ap (λ l. first (list_at l k)) (sym c.reserve_from.ensures.lists) ∙ sym c.take.ensures.answer ∙ c.in-Some.is in
    let sent : parcels_of c.send.new.wires.lists ≡ out_links c.args.to out (parcels_of (with_popped ls k)) =
    c.send.ensures.lists ∙ ap (λ l. out_links c.args.to out (parcels_of l)) (c.take.ensures.lists ∙ ap (λ l. with_popped l k) c.reserve_from.ensures.lists) in
    subst (λ (e : EngineAt). Makes e (Event.Take c.args.to c.args.from) c.send.result (engine_at (record { parts = c.take-in-Some.new.self; wires = c.send.new.wires; spares = c.self.inside.spares }))) c.self.view_is (
    subst (λ (o : Outcome). Makes (engine_at c.self.inside) (Event.Take c.args.to c.args.from) o (engine_at (record { parts = c.take-in-Some.new.self; wires = c.send.new.wires; spares = c.self.inside.spares }))) (sym c.send.ensures.outcome) (
    takes p ls c.args.to c.args.from c.in-Some.parcel front (parts_of c.take-in-Some.new.self) c.send.new.wires.lists c.in-Ok.done (c.in-Ok.ensures.ok c.args.from) sent
    )
    )

pub returns-in-Err-clause-err : goal.returns-in-Err-clause-err
returns-in-Err-clause-err c =
    let ls = c.self.inside.wires.lists in
    let k = place c.args.from c.args.to in
    let front : first (list_at ls k) ≡ Some c.in-Some.parcel = ap (λ l. first (list_at l k)) (sym c.reserve_from.ensures.lists) ∙ sym c.take.ensures.answer ∙ c.in-Some.is in
    let same : c.put_back.new.self.lists ≡ ls =
    c.put_back.ensures.lists ∙ (λ i. put_back ((c.take.ensures.lists ∙ ap (λ l. with_popped l k) c.reserve_from.ensures.lists) i) k (c.in-Err.ensures.given_back i)) ∙ as_before ls k c.in-Some.parcel front in
    (λ i. record { site = (c.in-Err.ensures.err i).site; machine = linked (parcels_of (same i)) (c.in-Err.ensures.err i) }) ∙ c.self.view_is
