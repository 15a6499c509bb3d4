-- The orders that are left, as contracts see them.
use Rattle.std.specs.Prelude.{◌≤◌, Bool, true, false, List, [], ◌∷◌, drop, length}
use Rattle.m3_base.specs.declared.event.Event.{Event}
use Rattle.m3_base.specs.declared.order.Order.{Order}
use Rattle.m3_machine.specs.declared.orders.Orders.TheInside.{Inside}

abbrev pub orders_left : Inside → List Order
orders_left o = drop o.taken o.list.items

abbrev pub IsWithinOrders : Inside → Type 0
IsWithinOrders o = o.taken ≤ length o.list.items
