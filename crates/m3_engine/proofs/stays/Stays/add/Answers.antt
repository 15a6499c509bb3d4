use Rattle.std.proofs.Common.{◌≡◌, ℕ, List, [], ◌∷◌, ◌++◌, length, Option, sym, ap, subst, ◌∙◌}
use Rattle.m3_model.specs.Machine.{new_stay}
use Rattle.m3_model.specs.Tile.State.{Resident}
use Rattle.m3_engine.specs.StayTable.{ArePlaces, with_place}
use Rattle.m3_engine.proofs.StayTable.{places_more}
use Rattle.m3_engine.proofs.stays.Stays.add.Goals as goal

pub invariant_of-self-2 : goal.invariant_of-self-2
invariant_of-self-2 c =
    let ys = c.self.inside.items.items in
    let items : ys ++ new_stay c.args.act ∷ [] ≡ c.push.new.self.items = ap (λ y. ys ++ y ∷ []) (sym c.new.ensures) ∙ sym c.in_ok-push.ensures.items in
    let places : with_place c.args.act (length ys) c.self.inside.places.items ≡ c.add_place.new.places.items =
    ap (λ n. with_place c.args.act n c.self.inside.places.items) (sym c.self.inside.items.ok.0 ∙ sym c.len-at.ensures) ∙ sym c.add_place.ensures.places in
    subst (λ (ps : List (Option ℕ)). ArePlaces c.push.new.self.items ps) places (
    subst (λ (zs : List Resident). ArePlaces zs (with_place c.args.act (length ys) c.self.inside.places.items)) items (
    places_more ys c.self.inside.places.items c.args.act c.self.invariant c.add_place.ensures.low
    )
    )
