use Rattle.std.proofs.Common.{◌≡◌, ◌++◌, length, map}
use Rattle.std.specs.List.{All}
use Rattle.std.specs.Vec.Iter.{into_iter_items, into_iter_len}
use Rattle.m3_base.specs.declared.event.Event.{Event}
use Rattle.m3_script.specs.Rules.{IsOrder}
use Rattle.m3_cmd.proofs.events.orders_of.Given as goal

abbrev pub invariant-loop-event : goal.invariant-loop-event
invariant-loop-event l = record {
  are : map Event.Order l.orders.items ≡ l.yielded;
  left : l.yielded ++ into_iter_items l.event-iterator ≡ into_iter_items l.initial.event-iterator;
  len : into_iter_len l.event-iterator ≡ length (into_iter_items l.event-iterator);
  all : All IsOrder (into_iter_items l.event-iterator);
}
