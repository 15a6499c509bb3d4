-- The orders that are left, where the first of them may be taken.
use Rattle.std.specs.Prelude.{Bool, true, false, List, drop}
use Rattle.m3_base.specs.declared.event.Event.{Event}
use Rattle.m3_base.specs.declared.order.Order.{Order}

abbrev pub is_order : Event → Bool
is_order (Event.Order o) = true
is_order event = false

-- without the first, where that is taken
abbrev pub without_first : Bool → List Order → List Order
without_first true left = drop 1 left
without_first false left = left
