-- What any event does to the placement.
use Rattle.std.specs.Prelude.{ℕ, [], Option, None}
use Rattle.m3_base.specs.declared.event.Event.{Event}
use Rattle.m3_base.specs.declared.event.Made.{Made}
use Rattle.m3_base.specs.Ideal.State.{State}
use Rattle.m3_base.specs.Placement.State.{Placement, actor, link}
use Rattle.m3_base.specs.Placement.Landing.{PlacementResult}
use Rattle.m3_base.specs.Placement.Take.{take}
use Rattle.m3_base.specs.Placement.Tend.{tend}
use Rattle.m3_base.specs.Placement.Order.{close_least, least_closing, order}
use Rattle.m3_base.specs.Placement.Command.{command}
use Rattle.m3_base.specs.Placement.Turn.{turn_of}

-- ---- any event

abbrev pub placement_step : State → Placement → Event → Option Made → Option PlacementResult
placement_step s p (Event.Do a c) made = command s p a c
placement_step s p (Event.Turn a) made = turn_of s p made (actor a p)
placement_step s p (Event.Take to from) made = take s p to from (link from to p)
placement_step s p (Event.Tend a) made = tend s p (actor a p)
placement_step s p Event.Close made = close_least s p (least_closing s.grants 1 s.grants)
placement_step s p (Event.Order o) made = order s p o
-- a line on files has no rule of places, and changes none
placement_step s p (Event.File line) made = None
