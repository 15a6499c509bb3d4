use Rattle.std.proofs.Common.{◌≡◌, length}
use Rattle.m3_engine.specs.TileView.{AreAtSite, tiles_of}
use Rattle.m3_engine.proofs.OpenedParts.{tiles_to}
use Rattle.m3_engine.proofs.opening.no_tiles.Given as goal

abbrev pub invariant-loop-number : goal.invariant-loop-number
invariant-loop-number l = (tiles_of l.tiles.items ≡ tiles_to l.number) × (length l.tiles.items ≡ l.number) × AreAtSite l.fn.site l.tiles.items
