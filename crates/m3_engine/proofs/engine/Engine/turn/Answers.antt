use Rattle.std.proofs.Common.{◌≡◌, ◌++◌, None, sym, ap, subst, ◌∙◌}
use Rattle.std.specs.Prelude.{Option}
use Rattle.m3_base.specs.declared.event.Event.{Event}
use Rattle.m3_base.specs.declared.event.Made.{Made}
use Rattle.m3_base.specs.declared.event.Outcome.{Outcome}
use Rattle.m3_model.specs.Config.Site.{tile_of}
use Rattle.m3_model.specs.Machine.{part_step, tile_for_event}
use Rattle.m3_kernel.specs.ParcelView.{parcels_of, out_of}
use Rattle.m3_engine.specs.PartsView.{DoesAt, part_of, parts_of}
use Rattle.m3_engine.specs.EngineView.{EngineAt, Makes, engine_at, out_links}
use Rattle.m3_engine.specs.ProgramTurn.{IsAsked, ask_of}
use Rattle.m3_engine.proofs.PartStep.{makes_with}
use Rattle.m3_engine.proofs.engine.Engine.turn.Goals as goal

pub returns-clause-ok : goal.returns-clause-ok
returns-clause-ok g c =
    let p = parts_of c.self.inside.parts in
    let e = Event.Turn c.args.act in
    let t = tile_for_event p.site e in
    let new = parts_of c.turn-done.new.self in
    let done = c.turn-done.result in
    let from = c.tile_of-from.result in
    let out = out_of done.first ++ out_of done.second in
    let here : from ≡ t = c.tile_of-from.ensures ∙ (λ i. tile_of (c.site.ensures i) (c.number.ensures.same i)) in
    let does : DoesAt t p new done (part_step p.site (part_of t p) e done.outcome.made None) =
    subst (λ (made : Option Made). DoesAt t p new done (part_step p.site (part_of t p) e made None)) (sym c.turn-done.ensures.made) c.turn-done.ensures.does in
    let sent : parcels_of c.send.new.wires.lists ≡ out_links from out (parcels_of c.self.inside.wires.lists) =
    c.send.ensures.lists ∙ ap (λ l. out_links from out (parcels_of l)) c.reserve_from.ensures.lists in
    subst (λ (x : EngineAt). Makes x e c.send.result (engine_at (record { parts = c.turn-done.new.self; wires = c.send.new.wires; spares = c.turn-done.new.spares }))) c.self.view_is (
    subst (λ (o : Outcome). Makes (engine_at c.self.inside) e o (engine_at (record { parts = c.turn-done.new.self; wires = c.send.new.wires; spares = c.turn-done.new.spares }))) (sym c.send.ensures.outcome) (
    makes_with p new (parcels_of c.self.inside.wires.lists) (parcels_of c.send.new.wires.lists) e from done tt here does sent
    )
    )

pub returns-clause-asked : goal.returns-clause-asked
returns-clause-asked g c =
    let moves = g.P.Program.moves c.args.program.now in
    let old = g.P.Program.meaning c.args.program.now in
    let new = g.P.Program.meaning c.move_in_turn.new.program in
    let made = c.in_ok-made.made in
    subst (λ (m : Option Made). IsAsked moves old new (ask_of c.args.self.now c.args.act) m)
    (sym (ap (λ (o : Outcome). o.made) c.send.ensures.outcome ∙ c.turn-done.ensures.made)) (
    subst (λ (x : EngineAt). IsAsked moves old new (ask_of x c.args.act) made) c.self.view_is c.in_ok-made.ensures.asked
    )
