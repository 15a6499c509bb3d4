use Rattle.std.proofs.Common.{Some, subst, sym}
use Rattle.m3_model.specs.Tile.State.{Tile}
use Rattle.m3_model.specs.Tile.Step.{tile_turn}
use Rattle.m3_engine.specs.TileView.{TileAt}
use Rattle.m3_engine.specs.TurnView.{TurnDoes}
use Rattle.m3_engine.proofs.TileTurn.{IsTurn, turn_is, turns_there}
use Rattle.m3_engine.proofs.tile.TilePart.made_turn.Goals as goal

pub returns-clause-does : goal.returns-clause-does
returns-clause-does c =
    let t : Tile = record { tile = c.self.inside.tile; current = c.self.inside.current; stays = c.self.inside.stays } in
    let is = subst (λ (x : TileAt). IsTurn x.site x.tile c.args.act c.args.made) (sym c.self.view_is) (turn_is c.args.self.now.site c.args.self.now.tile c.args.act c.args.made c.requires.resident c.requires.answers) in
    subst (λ (x : TileAt). TurnDoes c.make_move.result (record { tile = c.self.inside.tile; current = Some c.make_move.new.context; stays = c.make_move.new.self }) (tile_turn x.site x.tile c.args.act (Some c.args.made))) c.self.view_is (
    turns_there c.self.inside.site t c.args.act c.in-Some.context c.make_move.new.context c.make_move.new.self c.args.made c.make_move.result is c.in-Some.is c.make_move.ensures.does
    )
