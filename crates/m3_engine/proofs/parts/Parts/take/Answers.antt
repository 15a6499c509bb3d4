use Rattle.std.proofs.Common.{◌≡◌, ◌<◌, ◌≤◌, length, set, Some, None, sym, ap, subst, ◌∙◌, arith}
use Rattle.std.proofs.lemmas.Bool.Decides.{nat_tests}
use Rattle.m3_base.specs.declared.event.Event.{Event}
use Rattle.m3_model.specs.Config.Site.{Site}
use Rattle.m3_model.specs.Tile.Step.{tile_take}
use Rattle.m3_model.specs.Machine.{Part, Tile_part, of_tile, part_step}
use Rattle.m3_kernel.specs.ParcelView.{parcel_of}
use Rattle.m3_kernel.specs.declared.done.Done.{Done}
use Rattle.m3_engine.specs.TileStepView.{Does}
use Rattle.m3_engine.specs.PartsView.{parts_of, part_of, DoesAt}
use Rattle.m3_engine.proofs.PartStep.{tile_at, tile_there, read_tile, with_tiles}
use Rattle.m3_engine.proofs.PartsAtSite.{site_read, tile_read, within_tiles}
use Rattle.m3_engine.proofs.parts.Parts.take.Goals as goal

pub returns-in-Ok-clause-ok : goal.returns-in-Ok-clause-ok
returns-in-Ok-clause-ok c from =
    let p = parts_of c.args.self.now in
    let h = c.args.self.now.kernel.site in
    let q = parcel_of c.args.parcel in
    let here : c.from-at.result ≡ c.args.to = c.from-at.ensures ∙ c.number.ensures.same in
    let high : 2 ≤ c.args.to = grind (arith, nat_tests, here, c.if-at-eq0.false, c.if-at-eq1.false) in
    let ts = c.args.self.now.tiles.items in
    let was = c.index_mut.result.now in
    let within : c.from-at.result < length ts = (let n = c.requires.count in omega (arith, n, c.from-at.ensures, c.number.ensures.range)) in
    let read = read_tile p c.from-at.result c.args.to was.tile here (within_tiles ts c.from-at.result was within c.index_mut.ensures.value) (tile_read ts c.from-at.result was within c.index_mut.ensures.value) in
    let step : part_step h (part_of c.args.to p) (Event.Take c.args.to from) None (Some q) ≡ Some (of_tile (tile_take h was.tile q)) =
    ap (λ (x : Part). part_step h x (Event.Take c.args.to from) None (Some q)) (tile_there p c.args.to high ∙ ap (λ x. Tile_part x) (sym read)) in
    let site : was.site ≡ h = site_read ts c.from-at.result was within c.index_mut.ensures.value h c.requires.tiles in
    let does = subst (λ (x : Site). Does c.in-Ok.did c.take-2.new.self.tile (tile_take x was.tile q)) site c.in-Ok.ensures.ok in
    let at = tile_at p ts c.from-at.result c.take-2.new.self c.args.to c.in-Ok.did (tile_take h was.tile q) (part_step h (part_of c.args.to p) (Event.Take c.args.to from) None (Some q)) here step does in
    subst (λ (d : Done). DoesAt c.args.to p (with_tiles p (set ts c.from-at.result c.take-2.new.self)) d (part_step h (part_of c.args.to p) (Event.Take c.args.to from) None (Some q))) (sym c.done_by-in-Ok.ensures) at
