use Rattle.std.proofs.Common.{◌+◌, [], drop, refl}
use Rattle.m3_engine.specs.TileView.{tiles_of}
use Rattle.m3_model.specs.Abstraction.{flat_map, tile_contexts}
use Rattle.m3_machine.proofs.TraversalSteps.{one_more, all_done, tiles_more, tiles_past}
use Rattle.m3_machine.proofs.traversal.visit_tiles.Goals as goal

pub loop-tile-init : goal.loop-tile-init
loop-tile-init g c last k = k

pub loop-tile-preserved : goal.loop-tile-preserved
loop-tile-preserved g c =
    let tiles = c.args.tiles.now in
    let i = c.loop-tile.tile-index in
    let x = c.tile-item.result in
    one_more g.V.Visitor.visits c.requires.both (flat_map tile_contexts (tiles_of tiles)) (flat_map tile_contexts (tiles_of (drop i tiles))) (tile_contexts x.tile) (flat_map tile_contexts (tiles_of (drop (i + 1) tiles))) [] [] [] [] c.args.visitor.now c.loop-tile.visitor c.visit_tile.new.visitor
    (tiles_more tile_contexts tiles i x c.loop-tile-test.true c.tile-item.is) refl c.loop-tile.invariant c.visit_tile.ensures

pub returns : goal.returns
returns g c =
    let tiles = c.args.tiles.now in
    let i = c.loop-tile.tile-index in
    all_done g.V.Visitor.visits c.requires.none (flat_map tile_contexts (tiles_of tiles)) (flat_map tile_contexts (tiles_of (drop i tiles))) [] [] c.args.visitor.now c.loop-tile.visitor (tiles_past tile_contexts tiles i c.loop-tile-test.false) refl c.loop-tile.invariant
