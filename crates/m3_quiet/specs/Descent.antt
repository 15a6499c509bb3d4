-- The potential falls at each event that the driver makes.
use Rattle.std.specs.Prelude.{◌≡◌, ℕ, ◌<◌, Bool, true, false, not, ◌==◌, List, [], ◌∷◌, length, Option, Some, None, is_some, if◌then◌else◌}
use Rattle.m3_base.specs.declared.event.Made.{Made}
use Rattle.m3_base.specs.declared.event.Event.{Event}
use Rattle.m3_base.specs.declared.order.Order.{Order}
use Rattle.m3_base.specs.Lists.Counting.{total}
use Rattle.m3_base.specs.Ideal.State.{State}
use Rattle.m3_base.specs.Placement.State.{Placement, PlacedActivity, actor}
use Rattle.m3_base.specs.Placement.Landing.{PlacementResult}
use Rattle.m3_base.specs.Lists.CountDown.{one_less}
use Rattle.m3_base.specs.DriverRun.Configuration.{orders_after}
use Rattle.m3_quiet.specs.Potential.{Units, potential}
use Rattle.m3_base.specs.Journal.Entry.{is_idle}

-- ---- what an event takes of the programs' calls and of the script's orders

abbrev pub takes_call : Option PlacedActivity → Option Made → Bool
takes_call None made = false
takes_call (Some x) None = false
takes_call (Some x) (Some Made.Quantum) = false
takes_call (Some x) (Some Made.End) = false
takes_call (Some x) (Some made) = not (is_some x.pending)

abbrev pub units_of : ℕ → Units → ℕ
units_of a [] = 0
units_of a (u ∷ us) = if u.0 == a then u.1 else units_of a us

-- one call of this program fewer
abbrev pub with_call_spent : ℕ → Units → Units
with_call_spent a [] = []
with_call_spent a (u ∷ us) = if u.0 == a then (u.0, one_less u.1) ∷ us else u ∷ with_call_spent a us

abbrev pub units_after : Placement → Units → Event → Option Made → Units
units_after p us (Event.Turn a) made =
    if takes_call (actor a p) made then with_call_spent a us else us
units_after p us e made = us

-- a turn that calls its program has a call left
abbrev pub HasCall : Placement → Units → Event → Option Made → Type 0
HasCall p us (Event.Turn a) made = takes_call (actor a p) made ≡ true → 0 < units_of a us
HasCall p us e made = Unit {0}

abbrev pub unit_total : Units → ℕ
unit_total us = total (λ u. u.1) us

-- the activities that have a program
abbrev pub unit_acts : Units → List ℕ
unit_acts [] = []
unit_acts (u ∷ us) = u.0 ∷ unit_acts us

-- ---- one event

-- what an event does, with the calls and orders that are left
abbrev pub worth_after : State → Placement → Units → List Order → Event → Option Made → PlacementResult → ℕ
worth_after s p us left e made d =
    potential d.state d.places (units_after p us e made) (length (orders_after left e))

-- an event that isn't idle lowers the sum
abbrev pub Falls : State → Placement → Units → List Order → Event → Option Made → Option PlacementResult → Type 0
Falls s p us left e made None = Unit {0}
Falls s p us left e made (Some d) =
    is_idle d.said ≡ false
    → worth_after s p us left e made d < potential s p us (length left)
