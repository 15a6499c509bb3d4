use Rattle.std.proofs.Common.{◌≡◌, ◌<◌, length, set, Some, None, sym, ap, subst, ◌∙◌, arith}
use Rattle.m3_base.specs.declared.event.Event.{Event}
use Rattle.m3_model.specs.Config.Site.{Site, tile_of}
use Rattle.m3_model.specs.Tile.Step.{tile_do}
use Rattle.m3_model.specs.Machine.{Part, Tile_part, of_tile, part_step}
use Rattle.m3_kernel.specs.declared.done.Done.{Done}
use Rattle.m3_engine.specs.TileStepView.{Does}
use Rattle.m3_engine.specs.PartsView.{parts_of, part_of, DoesAt}
use Rattle.m3_engine.proofs.PartStep.{tile_at, tile_there, read_tile, with_tiles}
use Rattle.m3_engine.proofs.PartsAtSite.{site_read, tile_read, within_tiles}
use Rattle.m3_refine.proofs.arrival.AnswerAndClosed.{home_tile as home_high}
use Rattle.m3_engine.proofs.parts.Parts.command.Goals as goal

pub returns-clause-ok : goal.returns-clause-ok
returns-clause-ok c =
    let p = parts_of c.args.self.now in
    let h = c.args.self.now.kernel.site in
    let t = tile_of h c.args.act in
    let here : c.from-at.result ≡ t = c.from-at.ensures ∙ c.number-2.ensures.same ∙ c.tile_of-tile.ensures ∙ (λ i. tile_of (c.site.ensures i) (c.number.ensures.same i)) in
    let high = home_high h c.args.act c.requires.setup c.requires.declared in
    let ts = c.args.self.now.tiles.items in
    let was = c.index_mut.result.now in
    let within : c.from-at.result < length ts = (let n = c.requires.parts.count in omega (arith, n, c.from-at.ensures, c.number-2.ensures.range)) in
    let read = read_tile p c.from-at.result t was.tile here (within_tiles ts c.from-at.result was within c.index_mut.ensures.value) (tile_read ts c.from-at.result was within c.index_mut.ensures.value) in
    let step : part_step h (part_of t p) (Event.Do c.args.act c.args.command) None None ≡ Some (of_tile (tile_do h was.tile c.args.act c.args.command)) =
    ap (λ (x : Part). part_step h x (Event.Do c.args.act c.args.command) None None) (tile_there p t high.0 ∙ ap (λ x. Tile_part x) (sym read)) in
    let site : was.site ≡ h = site_read ts c.from-at.result was within c.index_mut.ensures.value h c.requires.parts.tiles in
    let does = subst (λ (x : Site). Does c.in_ok-did.did c.command.new.self.tile (tile_do x was.tile c.args.act c.args.command)) site c.in_ok-did.ensures.ok in
    let at = tile_at p ts c.from-at.result c.command.new.self t c.in_ok-did.did (tile_do h was.tile c.args.act c.args.command) (part_step h (part_of t p) (Event.Do c.args.act c.args.command) None None) here step does in
    subst (λ (d : Done). DoesAt t p (with_tiles p (set ts c.from-at.result c.command.new.self)) d (part_step h (part_of t p) (Event.Do c.args.act c.args.command) None None)) (sym c.done_by.ensures) at
