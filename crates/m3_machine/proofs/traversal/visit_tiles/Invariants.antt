use Rattle.std.proofs.Common.{[], drop}
use Rattle.m3_engine.specs.TileView.{tiles_of}
use Rattle.m3_model.specs.Abstraction.{flat_map, tile_contexts}
use Rattle.m3_machine.proofs.TraversalSteps.{LeftOf}
use Rattle.m3_machine.proofs.traversal.visit_tiles.Given as goal

abbrev pub invariant-loop-tile : goal.invariant-loop-tile
invariant-loop-tile g l = LeftOf g.V.Visitor.visits (flat_map tile_contexts (tiles_of l.tiles)) [] (flat_map tile_contexts (tiles_of (drop l.tile-index l.tiles))) [] l.fn.visitor l.visitor
