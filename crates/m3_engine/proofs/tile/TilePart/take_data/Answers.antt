use Rattle.std.proofs.Common.{refl, sym, subst, ◌∙◌}
use Rattle.m3_engine.specs.TileStepView.{Does}
use Rattle.m3_engine.proofs.TileTake.{drops_data}
use Rattle.m3_engine.proofs.tile.TilePart.take_data.Goals as goal

pub returns-then-not-accepts-clause-ok : goal.returns-then-not-accepts-clause-ok
returns-then-not-accepts-clause-ok c =
    subst (Does c.is_idle.result c.args.self.now.tile) (
    sym (drops_data c.args.self.now.site c.args.self.now.tile c.args.packet (sym c.is_for.ensures ∙ c.if-not-is_for.false) (sym c.accepts.ensures ∙ c.if-not-accepts.true))
    ) (record { outcome = c.is_idle.ensures.outcome; part = refl; out = c.is_idle.ensures.out })
