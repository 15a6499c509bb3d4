use Rattle.std.proofs.Common.{◌≡◌, ◌<◌, length, ◌∙◌, sym, ap, arith, Some, None}
use Rattle.m3_model.specs.Config.Site.{Site}
use Rattle.m3_engine.specs.NextEvent.{turn_among, turn_of}
use Rattle.m3_engine.specs.TileView.{tiles_of}
use Rattle.m3_engine.proofs.FirstFrom.{turns_at_first, passes, comes, none_left}
use Rattle.m3_engine.proofs.PartsAtSite.{turn_read}
use Rattle.m3_engine.proofs.next.next_turn.Goals as goal

pub loop-tile-init : goal.loop-tile-init
loop-tile-init c = λ h are. turns_at_first h (tiles_of c.args.tiles.now)

pub loop-tile-preserved : goal.loop-tile-preserved
loop-tile-preserved c = λ h are.
    let ts = c.args.tiles.now in
    let t = c.loop-tile.tile in
    let within : c.from.result < length ts = omega (arith, c.from.ensures, c.loop-tile-test.true, c.requires) in
    let none : turn_among h (tiles_of ts) t ≡ None =
    sym (turn_read ts c.from.result c.index-tiles-from.result within c.index-tiles-from.is h are t c.from.ensures) ∙ sym c.next_turn.ensures ∙ c.in_default.is in
    c.loop-tile.invariant h are ∙ passes (turn_among h (tiles_of ts)) t c.loop-tile-test.true none

pub returns-in-Some : goal.returns-in-Some
returns-in-Some c = λ h are.
    let ts = c.args.tiles.now in
    let t = c.loop-tile.tile in
    let within : c.from.result < length ts = omega (arith, c.from.ensures, c.loop-tile-test.true, c.requires) in
    let some : turn_among h (tiles_of ts) t ≡ Some c.in-Some.event =
    sym (turn_read ts c.from.result c.index-tiles-from.result within c.index-tiles-from.is h are t c.from.ensures) ∙ sym c.next_turn.ensures ∙ c.in-Some.is in
    sym (c.loop-tile.invariant h are ∙ comes (turn_among h (tiles_of ts)) t c.loop-tile-test.true c.in-Some.event some)

pub returns : goal.returns
returns c = λ h are. sym (c.loop-tile.invariant h are ∙ none_left (turn_among h (tiles_of c.args.tiles.now)) c.loop-tile.tile c.loop-tile-test.false)
