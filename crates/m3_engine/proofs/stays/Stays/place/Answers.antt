use Rattle.std.proofs.Common.{◌≡◌, ◌<◌, List, get_or, length, None, ap, subst, ◌∙◌, arith}
use Rattle.std.proofs.lemmas.List.{get_or_default}
use Rattle.m3_model.specs.Tile.State.{Resident}
use Rattle.m3_engine.specs.StayView.{StayPlaceIs}
use Rattle.m3_engine.proofs.StayTable.{place_by}
use Rattle.m3_engine.proofs.stays.Stays.place.Goals as goal

pub returns : goal.returns
returns c =
    let places = c.self.inside.places.items in
    let at : c.from.result ≡ c.args.act = c.from.ensures ∙ c.number.ensures.same in
    let low : c.args.act < 64 = (let r = c.number.ensures.range in let s = c.number.ensures.same in omega (arith, r, s)) in
    let within : c.from.result < length places = (let n = c.self.invariant.count in omega (arith, n, low, at)) in
    let here : c.index.result.now ≡ get_or places c.args.act None =
    c.index.ensures ∙ get_or_default places c.from.result c.index.result.now None within ∙ ap (λ k. get_or places k None) at in
    subst (λ (ys : List Resident). StayPlaceIs ys c.args.act c.index.result.now) c.self.view_is (
    place_by c.self.inside.items.items places c.args.act c.index.result.now c.self.invariant low here
    )
