use Rattle.std.proofs.Common.{◌≡◌, List, set, refl, sym, ap, subst}
use Rattle.m3_kernel.specs.ParcelView.{heard_in}
use Rattle.m3_model.specs.Tile.State.{Resident}
use Rattle.m3_model.specs.Tile.Step.{resident_after_answers}
use Rattle.m3_engine.specs.StayView.{IsStayAt, replaced_if, stay_in}
use Rattle.m3_engine.proofs.StayPlace.{set_replaced}
use Rattle.m3_engine.proofs.StayTable.{places_kept}
use Rattle.m3_engine.proofs.stays.Stays.hear.Goals as goal

pub invariant_of-self : goal.invariant_of-self
invariant_of-self c =
    places_kept c.self.inside.items.items c.self.inside.places.items c.in-Some.at c.index_mut.result.now c.hear.new.self c.self.invariant c.index_mut.ensures.value
    (ap (λ (y : Resident). y.act) c.hear.ensures)

pub returns-in-Some : goal.returns-in-Some
returns-in-Some c =
    let ys = c.self.inside.items.items in
    let f = resident_after_answers (heard_in c.args.heard) in
    let place = subst (λ (zs : List Resident). IsStayAt zs c.args.act c.in-Some.at) (sym c.self.view_is) c.in-Some.ensures in
    subst (λ (zs : List Resident). set ys c.in-Some.at c.hear.new.self ≡ replaced_if f (stay_in c.args.act zs) zs) c.self.view_is (
    set_replaced ys c.args.act c.in-Some.at c.index_mut.result.now c.hear.new.self f place c.index_mut.ensures.value c.hear.ensures refl
    )
