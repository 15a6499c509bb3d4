use Rattle.std.proofs.Common.{List, sym, ap, subst, ◌∙◌}
use Rattle.m3_model.specs.Tile.State.{Resident}
use Rattle.m3_engine.specs.StayView.{IsStayAt, stay_in}
use Rattle.m3_engine.proofs.StayTable.{places_kept}
use Rattle.m3_engine.proofs.TileTurn.{moves_there}
use Rattle.m3_engine.proofs.stays.Stays.make_move.Goals as goal

pub invariant_of-self : goal.invariant_of-self
invariant_of-self c =
    places_kept c.self.inside.items.items c.self.inside.places.items c.in-Some.at c.index_mut.result.now c.make_move.new.stay c.self.invariant c.index_mut.ensures.value c.make_move.ensures.act

pub returns-clause-does : goal.returns-clause-does
returns-clause-does c t y current stays found =
    let place = subst (λ (zs : List Resident). IsStayAt zs c.args.act c.in-Some.at) (sym c.self.view_is) c.in-Some.ensures in
    moves_there c.args.site.now c.self.inside.items.items c.args.act c.in-Some.at c.args.context.now c.make_move.new.context c.index_mut.result.now c.make_move.new.stay c.args.made c.make_move.result
    place c.index_mut.ensures.value c.make_move.ensures.act c.make_move.ensures.does t y current (stays ∙ sym c.self.view_is) (ap (stay_in c.args.act) c.self.view_is ∙ found)
