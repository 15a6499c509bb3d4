-- What is asked of an event before a machine makes it.
use Rattle.std.specs.Prelude.{◌≡◌, ◌<◌, true, false}
use Rattle.m3_base.specs.declared.event.Event.{Event}
use Rattle.m3_base.specs.declared.order.Order.{Order}
use Rattle.m3_base.specs.Ideal.State.{holder}
use Rattle.m3_base.specs.Limits.{HasRanges}
use Rattle.m3_model.specs.Config.Site.{Site, has_program}
use Rattle.m3_model.specs.Config.KnownActivities.{is_home}

-- the event names activities of the setup alone, and the numbers of a grant are in their ranges
abbrev pub IsOfSetup : Site → Event → Type 0
IsOfSetup h (Event.Do a c) = is_home h a ≡ true
IsOfSetup h (Event.Tend a) = is_home h a ≡ true
IsOfSetup h (Event.Order (Order.Switch t a)) = is_home h a ≡ true
IsOfSetup h (Event.Order (Order.Grant line)) = (is_home h (holder line) ≡ true) × HasRanges line
IsOfSetup h event = Unit {0}

-- a command is made for an activity without a program, a turn by one that has a program, and no file event is made
abbrev pub SuitsPrograms : Site → Event → Type 0
SuitsPrograms h (Event.Do a c) = has_program h a ≡ false
SuitsPrograms h (Event.Turn a) = has_program h a ≡ true
SuitsPrograms h (Event.File line) = ⊥
SuitsPrograms h event = Unit {0}

-- the events that a machine without programs makes: commands, takes, tends, closes and orders
abbrev pub IsServed : Event → Type 0
IsServed (Event.Turn a) = ⊥
IsServed (Event.File line) = ⊥
IsServed event = Unit {0}

-- the tiles of a take, and of a switch
abbrev pub IsWithin : Event → Type 0
IsWithin (Event.Take to from) = (to < 16) × (from < 16)
IsWithin (Event.Order (Order.Switch t a)) = t < 16
IsWithin event = Unit {0}
