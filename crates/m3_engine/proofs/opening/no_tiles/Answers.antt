use Rattle.std.proofs.Common.{◌≡◌, suc, ◌+◌, ◌∷◌, ◌++◌, [], arith, rules, sym, ap, subst, ◌∙◌}
use Rattle.std.proofs.lemmas.List.{map-append}
use Rattle.m3_model.specs.Machine.{empty_tile}
use Rattle.m3_engine.specs.TileView.{TileAt, AreAtSite, tiles_of}
use Rattle.m3_engine.proofs.OpenedParts.{tiles_to}
use Rattle.m3_engine.proofs.PartsAtSite.{at_site_more}
use Rattle.m3_engine.proofs.opening.no_tiles.Goals as goal

pub loop-number-preserved : goal.loop-number-preserved
loop-number-preserved c =
    let ts = c.loop-number.tiles.items in
    let h = c.args.site.now in
    let tile = c.in_ok-tile.tile in
    let items : c.push.new.self.items ≡ ts ++ tile ∷ [] = c.in_ok-push.ensures.items in
    let last : tile.tile ≡ empty_tile c.loop-number.number = c.in_ok-tile.ensures.tile ∙ ap empty_tile c.new.ensures in
    let next : suc c.loop-number.number ≡ c.loop-number.number + 1 = omega arith in
    let lists : tiles_of c.push.new.self.items ≡ tiles_to (c.loop-number.number + 1) =
    ap tiles_of items ∙ map-append (λ (t : TileAt). t.tile) ts (tile ∷ []) ∙ (λ i. c.loop-number.invariant.0 i ++ last i ∷ []) ∙ ap tiles_to next in
    let site : AreAtSite h c.push.new.self.items =
    subst (AreAtSite h) (sym items) (at_site_more h ts tile c.loop-number.invariant.2 (c.in_ok-tile.ensures.site ∙ c.in_ok-own.ensures)) in
    (lists, search rules, site)
