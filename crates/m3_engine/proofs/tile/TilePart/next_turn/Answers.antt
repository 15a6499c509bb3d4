use Rattle.std.proofs.Common.{sym, ap, ◌∙◌}
use Rattle.m3_engine.specs.TileView.{TileAt}
use Rattle.m3_engine.proofs.TileTurn.{turns_none}
use Rattle.m3_engine.proofs.tile.TilePart.next_turn.Goals as goal

pub returns-in-None : goal.returns-in-None
returns-in-None c = sym (turns_none c.args.self.now.site c.args.self.now.tile (ap (λ (t : TileAt). t.tile.current) (sym c.self.view_is) ∙ c.in-None.is))
