use Rattle.std.proofs.Common.{ap, ◌∙◌}
use Rattle.std.specs.Prelude.{is_some}
use Rattle.m3_base.specs.Ideal.Context.{endpoint}
use Rattle.m3_engine.proofs.StayHears.{unread_by_front}
use Rattle.m3_engine.proofs.stay.has_unread.Goals as goal

pub returns-in-None : goal.returns-in-None
returns-in-None c = ap is_some c.in-None.ensures ∙ unread_by_front (endpoint c.args.context.now c.args.ep)

pub returns-in-Some : goal.returns-in-Some
returns-in-Some c = ap is_some c.in-Some.ensures ∙ unread_by_front (endpoint c.args.context.now c.args.ep)
