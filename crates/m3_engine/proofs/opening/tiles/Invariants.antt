use Rattle.std.proofs.Common.{drop}
use Rattle.m3_model.specs.SetupOpening.{opened_site}
use Rattle.m3_engine.specs.TileView.{AreAtSite, tiles_of}
use Rattle.m3_engine.proofs.OpenedParts.{Progress}
use Rattle.m3_engine.proofs.opening.tiles.Given as goal

abbrev pub invariant-loop-home : goal.invariant-loop-home
invariant-loop-home l =
    Progress l.fn.setup (tiles_of l.tiles.items) l.table.items (drop l.home-index (opened_site l.fn.setup).homes) × AreAtSite l.fn.kernel.site l.tiles.items
