use Rattle.std.proofs.Common.{rules}
use Rattle.m3_core.proofs.ReplyCreditFits.{room_joined}
use Rattle.m3_core.proofs.context.Context.land.Goals as goal

pub return_credit-requires : goal.return_credit-requires
return_credit-requires c = room_joined c.args.self.now c.enqueue.new.self c.args.ep c.args.grant c.args.message c.enqueue.result c.requires c.enqueue.ensures.answer (search rules) c.enqueue.ensures.context (search rules)
