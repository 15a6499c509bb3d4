use Rattle.std.proofs.Common.{◌≡◌, ◌∙◌, Bool, List, drop, drop-drop, sym, ap}
use Rattle.m3_base.specs.declared.order.Order.{Order}
use Rattle.m3_machine.specs.OrdersLeft.{without_first}
use Rattle.m3_machine.proofs.orders.Orders.spend.Goals as goal

pub returns-then-self-len : goal.returns-then-self-len
returns-then-self-len c =
    sym (drop-drop 1 c.self.inside.taken c.self.inside.list.items)
    ∙ ap (λ (xs : List Order). drop 1 xs) c.self.view_is
    ∙ ap (λ (b : Bool). without_first b c.args.self.now) (sym c.if-is_order.true)
