use Rattle.std.proofs.Common.{◌≡◌, ◌<◌, length, set, None, sym, ap, subst, ◌∙◌, arith}
use Rattle.m3_base.specs.declared.event.Event.{Event}
use Rattle.m3_model.specs.Config.Site.{Site, tile_of}
use Rattle.m3_model.specs.Tile.State.{Tile}
use Rattle.m3_model.specs.Tile.Step.{tile_turn}
use Rattle.m3_model.specs.Machine.{Part, Tile_part, of_turn, part_step}
use Rattle.m3_kernel.specs.declared.done.Done.{Done}
use Rattle.m3_engine.specs.PartsView.{linked, parts_of, part_of, DoesAt}
use Rattle.m3_engine.specs.TurnView.{CanTurn, TurnDoes}
use Rattle.m3_engine.proofs.PartStep.{can_turn, turn_at, tile_there, read_tile, with_tiles}
use Rattle.m3_engine.proofs.PartsAtSite.{site_read, tile_read, within_tiles}
use Rattle.m3_refine.proofs.arrival.AnswerAndClosed.{home_tile as home_high}
use Rattle.m3_engine.proofs.parts.Parts.turn.Goals as goal

pub returns-clause-does : goal.returns-clause-does
returns-clause-does c =
    let p = parts_of c.args.self.now in
    let h = c.args.self.now.kernel.site in
    let t = tile_of h c.args.act in
    let here : c.from-at.result ≡ t = c.from-at.ensures ∙ c.number-2.ensures.same ∙ c.tile_of-tile.ensures ∙ (λ i. tile_of (c.site.ensures i) (c.number.ensures.same i)) in
    let high = home_high h c.args.act c.requires.setup c.requires.declared in
    let ts = c.args.self.now.tiles.items in
    let was = c.index_mut.result.now in
    let within : c.from-at.result < length ts = (let n = c.requires.parts.count in omega (arith, n, c.from-at.ensures, c.number-2.ensures.range)) in
    let read = read_tile p c.from-at.result t was.tile here (within_tiles ts c.from-at.result was within c.index_mut.ensures.value) (tile_read ts c.from-at.result was within c.index_mut.ensures.value) in
    let step : part_step h (part_of t p) (Event.Turn c.args.act) c.args.made None ≡ of_turn (tile_turn h was.tile c.args.act c.args.made) =
    ap (λ (x : Part). part_step h x (Event.Turn c.args.act) c.args.made None) (tile_there p t high.0 ∙ ap (λ x. Tile_part x) (sym read)) in
    let site : was.site ≡ h = site_read ts c.from-at.result was within c.index_mut.ensures.value h c.requires.parts.tiles in
    let does = subst (λ (x : Site). TurnDoes c.turn-did.result c.turn-did.new.self.tile (tile_turn x was.tile c.args.act c.args.made)) site c.turn-did.ensures.does in
    let at = turn_at p ts c.from-at.result c.turn-did.new.self t c.turn-did.result (tile_turn h was.tile c.args.act c.args.made) (part_step h (part_of t p) (Event.Turn c.args.act) c.args.made None) here step does in
    subst (λ (d : Done). DoesAt t p (with_tiles p (set ts c.from-at.result c.turn-did.new.self)) d (part_step h (part_of t p) (Event.Turn c.args.act) c.args.made None)) (sym c.done_by.ensures) at

pub turn-did-requires-clause-can : goal.turn-did-requires-clause-can
turn-did-requires-clause-can c =
    let p = parts_of c.args.self.now in
    let h = c.args.self.now.kernel.site in
    let t = tile_of h c.args.act in
    let here : c.from-at.result ≡ t = c.from-at.ensures ∙ c.number-2.ensures.same ∙ c.tile_of-tile.ensures ∙ (λ i. tile_of (c.site.ensures i) (c.number.ensures.same i)) in
    let ts = c.args.self.now.tiles.items in
    let was = c.index_mut.result.now in
    let within : c.from-at.result < length ts = (let n = c.requires.parts.count in omega (arith, n, c.from-at.ensures, c.number-2.ensures.range)) in
    let read = read_tile p c.from-at.result t was.tile here (within_tiles ts c.from-at.result was within c.index_mut.ensures.value) (tile_read ts c.from-at.result was within c.index_mut.ensures.value) in
    subst (λ (x : Tile). CanTurn x c.args.act c.args.made) (sym read) (
    can_turn c.requires.able.entries (linked c.requires.able.links p) t c.args.act c.args.made c.requires.able.few c.requires.able.low c.requires.able.stays c.requires.short
    )
