use Rattle.m3_engine.specs.PartsView.{parts_of}
use Rattle.m3_engine.proofs.PartStep.{order_at, order_kept}
use Rattle.m3_engine.proofs.parts.Parts.order.Goals as goal

pub returns-clause-ok : goal.returns-clause-ok
returns-clause-ok c = order_at (parts_of c.args.self.now) c.order-answer.new.self c.args.order c.order-answer.result c.done_by_order.result c.order-answer.ensures.site c.done_by_order.ensures c.order-answer.ensures.orders

pub returns-clause-err : goal.returns-clause-err
returns-clause-err c = order_kept (parts_of c.args.self.now) c.order-answer.new.self c.args.order c.order-answer.result c.done_by_order.result c.order-answer.ensures.site c.done_by_order.ensures c.order-answer.ensures.orders
