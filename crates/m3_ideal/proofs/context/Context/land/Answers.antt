use Rattle.std.proofs.Common.{sym, ◌∙◌}
use Rattle.m3_ideal.proofs.Landing.{lands_after, given_back}
use Rattle.m3_ideal.proofs.context.Context.land.Goals as goal

pub returns-clause-lands : goal.returns-clause-lands
returns-clause-lands c =
    lands_after c.args.ep c.args.grant c.args.letter c.args.self.now c.give_back.new.self c.join.new.self c.join.result
    (sym c.refusal.ensures ∙ c.in_default.is)
    (given_back _ _ c.give_back.result c.give_back.ensures.ok (sym c.is_err.ensures.value ∙ c.if-is_err.false))
    c.join.ensures.answer c.join.ensures.context
