-- How a trace goes on: the events that a machine of the setup makes, programs that have a move whenever they are asked,
-- and the longer traces that there are.
use Rattle.std.specs.Prelude.{◌≡◌, ◌⊎◌, ◌≤◌, ◌+◌, ℕ, true, List, ◌++◌, length, map, Option, Some, None}
use Rattle.std.specs.List.{All}
use Rattle.m3_base.specs.declared.event.Entry.{Entry}
use Rattle.m3_base.specs.declared.event.Event.{Event}
use Rattle.m3_base.specs.declared.order.Order.{Order}
use Rattle.m3_base.specs.declared.program.Move.{Move}
use Rattle.m3_base.specs.declared.program.Seen.{Seen}
use Rattle.m3_base.specs.Calls.JournalCalls.{Call, all_calls}
use Rattle.m3_base.specs.Calls.Relation.{IsReach, Leads}
use Rattle.m3_base.specs.DriverRun.Choices.{AreChoices, IsQuiet}
use Rattle.m3_base.specs.DriverRun.Configuration.{Configuration, initial_configuration, last_configuration}
use Rattle.m3_base.specs.Ideal.Opening.{opening}
use Rattle.m3_base.specs.Lists.EachElement.{Each}
use Rattle.m3_base.specs.Setup.Rules.{SetupValue}
use Rattle.m3_model.specs.Abstraction.{ideal_of, placement_of}
use Rattle.m3_model.specs.Config.Site.{Site, has_program}
use Rattle.m3_model.specs.Events.{IsOfSetup, IsWithin, SuitsPrograms}
use Rattle.m3_model.specs.Machine.{Machine}
use Rattle.m3_model.specs.SetupOpening.{opened_site}
use Rattle.m3_trace.specs.Trace.{IsTrace}

-- ---- events

-- the event names activities and tiles of the setup alone, and is a turn just of an activity that has a program
abbrev pub FitsSetup : Site → Event → Type 0
FitsSetup h e = IsOfSetup h e × IsWithin e × SuitsPrograms h e

-- ---- the driver

-- where the driver's run is
abbrev pub configuration_of : SetupValue → Machine → List Order → Configuration
configuration_of s m left = record { state = ideal_of m; places = placement_of (opened_site s) m; left = left }

-- the driver has no more to do, or it has and there are as many entries as the budget
abbrev pub DriverEnds : ℕ → Configuration → ℕ → Type 0
DriverEnds budget c count = IsQuiet c ⊎ ((count ≡ budget) × (IsQuiet c → ⊥))

-- ---- programs

-- from each meaning that calls lead to, the program has a move, whatever it sees
abbrev pub HasMove : {M : Type 0} → (M → Seen → Move → M → Type 0) → M → Type 0
HasMove {M} moves first =
    (cs : List Call) (m : M) → Leads moves first cs m → (see : Seen) → (move : Move) × (next : M) × moves m see move next

module _ {P : Type 0} (moves : P → List ℕ → Seen → Move → List ℕ → Type 0) (meaning : P → List ℕ) where
  -- it is there, and has a move whenever it is asked
  abbrev pub CanMove : Option P → Type 0
  CanMove None = ⊥
  CanMove (Some p) = HasMove (moves p) (meaning p)

  -- so it is of each activity to which the setup gives a program
  abbrev pub CanAllMove : SetupValue → (ℕ → Option P) → Type 0
  CanAllMove s programs = (a : ℕ) → has_program (opened_site s) a ≡ true → CanMove (programs a)

  -- the calls lead on from the program at opening
  abbrev pub IsReachOf : Option P → List Call → Type 0
  IsReachOf None cs = ⊥
  IsReachOf (Some p) cs = IsReach (moves p) (meaning p) cs

  -- a trace in which each program moves by its relation
  pub record IsProgramTrace (s : SetupValue) (programs : ℕ → Option P) (entries : List Entry) (m : Machine) : Type 0 where
    pub trace : IsTrace s entries m
    pub calls : (a : ℕ) → has_program (opened_site s) a ≡ true
        → IsReachOf (programs a) (all_calls a (opening s.memory s.lines) entries)

  -- ---- events that are given

  -- further entries have just these events, in this order
  pub record GoesOn (s : SetupValue) (programs : ℕ → Option P) (entries : List Entry) (events : List Event) : Type 0 where
    pub more : List Entry
    pub machine : Machine
    pub follows : map (λ x. x.event) more ≡ events
    pub trace : IsProgramTrace s programs (entries ++ more) machine

  -- a trace goes on by each list of events that fit its setup, as far as a journal may have so many entries
  abbrev pub EventsGoOn : Type 0
  EventsGoOn = (s : SetupValue) (programs : ℕ → Option P) (entries : List Entry) (m : Machine) (events : List Event)
      → CanAllMove s programs → IsProgramTrace s programs entries m → All (FitsSetup (opened_site s)) events
      → length entries + length events ≤ 2097152 → GoesOn s programs entries events

  -- ---- the driver's events

  -- the driver made the entries, from the opening with these orders on, and those are left
  pub record IsDrivenTrace (s : SetupValue) (programs : ℕ → Option P) (orders : List Order) (entries : List Entry)
      (m : Machine) (left : List Order) : Type 0 where
    pub trace : IsProgramTrace s programs entries m
    pub choices : AreChoices (initial_configuration s orders) entries
    pub reaches : last_configuration (initial_configuration s orders) entries ≡ configuration_of s m left
    pub fit : Each (λ o. FitsSetup (opened_site s) (Event.Order o)) left

  -- the driver makes further entries, up to where it ends
  pub record DriverGoesOn (s : SetupValue) (programs : ℕ → Option P) (orders : List Order) (entries : List Entry)
      (budget : ℕ) : Type 0 where
    pub more : List Entry
    pub machine : Machine
    pub left : List Order
    pub driven : IsDrivenTrace s programs orders (entries ++ more) machine left
    pub few : length (entries ++ more) ≤ budget
    pub ends : DriverEnds budget (configuration_of s machine left) (length (entries ++ more))

  abbrev pub DriversGoOn : Type 0
  DriversGoOn = (s : SetupValue) (programs : ℕ → Option P) (orders : List Order) (entries : List Entry) (m : Machine)
      (left : List Order) (budget : ℕ) → CanAllMove s programs → IsDrivenTrace s programs orders entries m left
      → length entries ≤ budget → budget ≤ 2097152 → DriverGoesOn s programs orders entries budget
