use Rattle.std.proofs.Common.{◌≡◌}
use Rattle.m3_engine.specs.NextEvent.{first_turn, turn_among}
use Rattle.m3_engine.specs.TileView.{AreAtSite, tiles_of}
use Rattle.m3_model.specs.Config.Site.{Site}
use Rattle.m3_engine.proofs.FirstFrom.{first_from}
use Rattle.m3_engine.proofs.next.next_turn.Given as goal

abbrev pub invariant-loop-tile : goal.invariant-loop-tile
invariant-loop-tile l = (h : Site) → AreAtSite h l.fn.tiles → first_turn h (tiles_of l.fn.tiles) ≡ first_from (turn_among h (tiles_of l.fn.tiles)) l.tile
