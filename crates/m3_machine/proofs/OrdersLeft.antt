-- The orders that are left after an event.
use Rattle.std.proofs.Common.{◌≡◌, List, [], ◌∷◌, refl}
use Rattle.m3_base.specs.declared.event.Event.{Event}
use Rattle.m3_base.specs.declared.order.Order.{Order}
use Rattle.m3_base.specs.DriverRun.Configuration.{orders_after}
use Rattle.m3_machine.specs.OrdersLeft.{is_order, without_first}

pub left_after : (left : List Order) (e : Event) → without_first (is_order e) left ≡ orders_after left e
left_after [] (Event.Order o) = refl
left_after [] (Event.Do a c) = refl
left_after [] (Event.Turn a) = refl
left_after [] (Event.Take to from) = refl
left_after [] (Event.Tend a) = refl
left_after [] Event.Close = refl
left_after [] (Event.File line) = refl
left_after (x ∷ xs) (Event.Order o) = refl
left_after (x ∷ xs) (Event.Do a c) = refl
left_after (x ∷ xs) (Event.Turn a) = refl
left_after (x ∷ xs) (Event.Take to from) = refl
left_after (x ∷ xs) (Event.Tend a) = refl
left_after (x ∷ xs) Event.Close = refl
left_after (x ∷ xs) (Event.File line) = refl
