-- Events that lower the sum, what they need, and how long runs of them can be.
use Rattle.std.specs.Prelude.{◌≡◌, ℕ, ◌+◌, ◌<◌, ◌≤◌, ◌||◌, Bool, true, false, List, [], ◌∷◌, length, Option, Some, None, slice_index_or}
use Rattle.std.specs.List.{list_any}
use Rattle.m3_base.specs.declared.event.Entry.{Entry}
use Rattle.m3_base.specs.declared.event.Event.{Event}
use Rattle.m3_base.specs.declared.event.Made.{Made}
use Rattle.m3_base.specs.declared.order.Order.{Order}
use Rattle.m3_base.specs.declared.setup_line.SetupLine.{SetupLine}
use Rattle.m3_base.specs.declared.ids.FlightId.{FlightId}
use Rattle.m3_base.specs.Ideal.Flights.{flight}
use Rattle.m3_base.specs.Ideal.Context.{Context}
use Rattle.m3_base.specs.Ideal.Issue.{next_id}
use Rattle.m3_base.specs.Ideal.GrantRules.{kernel_id}
use Rattle.m3_base.specs.Ideal.State.{State, Grant, context_of, grant_in}
use Rattle.m3_base.specs.Ideal.FlightNames.{Distinct}
use Rattle.m3_base.specs.Ideal.Opening.{opening}
use Rattle.m3_base.specs.Setup.Rules.{SetupValue, IsValid, facts_of}
use Rattle.m3_base.specs.Placement.State.{Placement, PlacedActivity, LinkToken, Data, Save, Saved, Restore, Closed, actor, link, current_of, is_placed, is_leaving, is_resting, is_coming, ready_at}
use Rattle.m3_base.specs.Placement.Landing.{PlacementResult}
use Rattle.m3_base.specs.Placement.Routing.{target_of}
use Rattle.m3_base.specs.Placement.Take.{is_here}
use Rattle.m3_base.specs.Placement.Order.{is_moving_at}
use Rattle.m3_base.specs.Placement.Step.{placement_step}
use Rattle.m3_base.specs.Placement.Opening.{opening_placement}
use Rattle.m3_base.specs.Placement.Driver.{next_event}
use Rattle.m3_quiet.specs.Potential.{Units, potential, is_there}
use Rattle.m3_base.specs.DriverRun.Configuration.{orders_after}
use Rattle.m3_base.specs.DriverRun.Budget.{budget, budget_of, act_count}
use Rattle.m3_quiet.specs.Descent.{HasCall, units_after, Falls, unit_total, unit_acts}
use Rattle.m3_quiet.specs.Facts.{Facts, Fine, LinksKnown, HoldsKnown, RecordsStand, RecordsHeld}
use Rattle.m3_quiet.specs.Schedule.{Scheduled, has_yield, link_at}
use Rattle.m3_quiet.specs.Flags.{Flagged, has_saved}
use Rattle.m3_base.specs.Journal.Entry.{is_idle}

-- ---- events that the driver, or a part of its own, can make

pub data Allowed (s : State) (p : Placement) (us : Units) (left : List Order)
    : Event → Option Made → Type 0 where
  -- a turn of an activity with a program, which has a call left where it makes one
  Turns :
      (a : ℕ) (x : PlacedActivity) (made : Option Made)
      → actor a p ≡ Some x
      → x.has_program ≡ true
      → HasCall p us (Event.Turn a) made
      → Allowed s p us left (Event.Turn a) made
  Takes :
      (to from : ℕ) (made : Option Made)
      → to < 16
      → from < 16
      → Allowed s p us left (Event.Take to from) made
  Tends : (a : ℕ) (made : Option Made) → Allowed s p us left (Event.Tend a) made
  Closes : (made : Option Made) → Allowed s p us left Event.Close made
  -- the next order of the script
  Orders :
      (o : Order) (os : List Order) (made : Option Made)
      → left ≡ o ∷ os
      → Allowed s p us left (Event.Order o) made
  -- without one, a switch that a tile wants, to the front of its ready list
  Switches :
      (t a : ℕ) (as' : List ℕ) (made : Option Made)
      → left ≡ []
      → ready_at t p ≡ a ∷ as'
      → list_any (is_moving_at t) p.actors ≡ false
      → slice_index_or p.yielded t false ≡ true
      → Allowed s p us left (Event.Order (Order.Switch t a)) made

-- each of them that isn't idle lowers the sum
abbrev pub EventsLowerTheSum : Type 0
EventsLowerTheSum =
    (s : State) (p : Placement) (us : Units) (left : List Order) (e : Event) (made : Option Made)
    → Facts s p
    → Allowed s p us left e made
    → Falls s p us left e made (placement_step s p e made)

-- what the driver chooses is one of them
abbrev pub ChoicesAreAllowed : Type 0
ChoicesAreAllowed =
    (s : State) (p : Placement) (us : Units) (left : List Order) (e : Event) (made : Option Made)
    → next_event s p left ≡ Some e
    → HasCall p us e made
    → Allowed s p us left e made

-- nor is it idle
abbrev pub ChoicesAreNotIdle : Type 0
ChoicesAreNotIdle =
    (s : State) (p : Placement) (left : List Order) (e : Event) (made : Option Made) (d : PlacementResult)
    → Facts s p
    → next_event s p left ≡ Some e
    → placement_step s p e made ≡ Some d
    → is_idle d.said ≡ false

-- ---- what the machine's invariant has to give at each state

pub record Premises (s : State) (p : Placement) : Type 0 where
  -- of the setup: all links are there, and each activity is declared once, at a tile from 2 on
  pub fine : Fine p
  -- names: flights differ, each token's and each held name is that of a flight, and the next names
  -- are new
  pub flights : Distinct s.flights
  pub links : LinksKnown s.flights p.links
  pub holds : HoldsKnown s.flights p.actors
  pub fresh :
      (a : ℕ) (c : Context)
      → context_of a s.contexts ≡ Some c
      → flight (next_id c) s.flights ≡ None
  pub fresh_kernel : flight (kernel_id s) s.flights ≡ None
  -- a record's grant is held by its activity, and isn't done; a Closed's Close was sent
  pub holders : RecordsHeld s
  pub records : RecordsStand s
  pub closed :
      (from g : ℕ) (ts : List LinkToken) (x : Grant)
      → link from 0 p ≡ Closed g ∷ ts
      → grant_in s.grants g ≡ Some x
      → x.close_sent ≡ true
  -- data for tile 1 is for no activity, and what is held is for its own
  pub memory :
      (from : ℕ) (id : FlightId) (ts : List LinkToken)
      → link from 1 p ≡ Data id ∷ ts
      → target_of (flight id s.flights) ≡ None
  pub held :
      (a : ℕ) (x : PlacedActivity) (id : FlightId) (ids : List FlightId)
      → actor a p ≡ Some x
      → x.hold ≡ id ∷ ids
      → target_of (flight id s.flights) ≡ Some a
  -- the walk along the kernel's links: data and Save meet their activity current, and Restore meets
  -- none
  pub walks :
      (t : ℕ) (id : FlightId) (ts : List LinkToken)
      → 2 ≤ t
      → t < 16
      → link 0 t p ≡ Data id ∷ ts
      → is_here (target_of (flight id s.flights)) (current_of t p) ≡ true
  pub saves :
      (from t a : ℕ) (ts : List LinkToken)
      → link from t p ≡ Save a ∷ ts
      → current_of t p ≡ Some a
  pub restores :
      (from t a : ℕ) (ts : List LinkToken)
      → link from t p ≡ Restore a ∷ ts
      → current_of t p ≡ None
  -- who is where: the tiles' current activities and those that Restore brings have their homes
  -- there
  pub current : (t a : ℕ) (x : PlacedActivity) → current_of t p ≡ Some a → actor a p ≡ Some x → x.home ≡ t
  pub comes :
      (from t a : ℕ) (ts : List LinkToken) (x : PlacedActivity)
      → link from t p ≡ Restore a ∷ ts
      → actor a p ≡ Some x
      → x.home ≡ t
  -- who rests, comes, or has a Saved on a link is current nowhere
  pub away :
      (a : ℕ) (x : PlacedActivity)
      → actor a p ≡ Some x
      → (is_resting x.place || is_coming x.place) ≡ true
      → is_there p.current x ≡ false
  pub gone :
      (k a : ℕ) (x : PlacedActivity)
      → has_saved a (link_at k p) ≡ true
      → actor a p ≡ Some x
      → is_there p.current x ≡ false
  -- an activity with a Save at a front, or with a Saved, is Leaving
  pub going :
      (from t a : ℕ) (ts : List LinkToken) (x : PlacedActivity)
      → link from t p ≡ Save a ∷ ts
      → actor a p ≡ Some x
      → is_leaving x.place ≡ true
  pub leaves :
      (k a : ℕ) (x : PlacedActivity)
      → has_saved a (link_at k p) ≡ true
      → actor a p ≡ Some x
      → is_leaving x.place ≡ true
  -- a tile's Placed and Leaving activities are one, and no Yield stands behind the Saved of its
  -- stay
  pub alone :
      (a b : ℕ) (x y : PlacedActivity)
      → actor a p ≡ Some x
      → actor b p ≡ Some y
      → x.home ≡ y.home
      → (is_placed x.place || is_leaving x.place) ≡ true
      → is_placed y.place ≡ true
      → a ≡ b
  pub silent :
      (from a k : ℕ) (waiting ended : Bool) (ts : List LinkToken)
      → link from 0 p ≡ Saved a waiting ended ∷ ts
      → has_yield a (link_at k p) ≡ false

-- what the steps themselves keep
pub record Bookkeeping (s : State) (p : Placement) : Type 0 where
  pub scheduled : Scheduled p
  pub flagged : Flagged s p

-- these two are all that a step needs, and the second is kept
abbrev pub FactsHold : Type 0
FactsHold = (s : State) (p : Placement) → Premises s p → Bookkeeping s p → Facts s p

abbrev pub BookkeepingAfter : Option PlacementResult → Type 0
BookkeepingAfter None = Unit {0}
BookkeepingAfter (Some d) = Bookkeeping d.state d.places

abbrev pub StepsKeepBookkeeping : Type 0
StepsKeepBookkeeping =
    (s : State) (p : Placement) (e : Event) (made : Option Made)
    → Premises s p
    → Bookkeeping s p
    → BookkeepingAfter (placement_step s p e made)

-- at opening it holds, where each activity is declared once, at a tile from 2 on, and the quantum
-- is at least 1
abbrev pub BookkeepingOpens : Type 0
BookkeepingOpens =
    (memory : ℕ) (programs : List ℕ) (lines : List SetupLine)
    → Fine (opening_placement programs lines)
    → 1 ≤ (opening_placement programs lines).quantum
    → Bookkeeping (opening memory lines) (opening_placement programs lines)

-- ---- runs

pub record RunState : Type 0 where
  pub state : State
  pub places : Placement
  pub units : Units
  pub left : List Order

abbrev pub worth : RunState → ℕ
worth r = potential r.state r.places r.units (length r.left)

abbrev pub run_state_after : RunState → Event → Option Made → PlacementResult → RunState
run_state_after r e made d =
    record {
      state = d.state;
      places = d.places;
      units = units_after r.places r.units e made;
      left = orders_after r.left e;
    }

-- one entry, which isn't idle
pub record IsBusyEntry (r : RunState) (e : Entry) (d : PlacementResult) : Type 0 where
  pub sounds : Premises r.state r.places
  pub allowed : Allowed r.state r.places r.units r.left e.event e.outcome.made
  pub step : placement_step r.state r.places e.event e.outcome.made ≡ Some d
  pub works : is_idle d.said ≡ false

pub data RunsTo : RunState → List Entry → RunState → Type 0 where
  Still : (r : RunState) → RunsTo r [] r
  On :
      (r n : RunState) (e : Entry) (es : List Entry) (d : PlacementResult)
      → IsBusyEntry r e d
      → RunsTo (run_state_after r e.event e.outcome.made d) es n
      → RunsTo r (e ∷ es) n

-- each entry takes at least one of the sum
abbrev pub RunsLowerTheSum : Type 0
RunsLowerTheSum =
    (r n : RunState) (es : List Entry)
    → Bookkeeping r.state r.places
    → RunsTo r es n
    → length es + worth n ≤ worth r

abbrev pub opening_run : ℕ → List SetupLine → Units → List Order → RunState
opening_run memory lines us left =
    record {
      state = opening memory lines;
      places = opening_placement (unit_acts us) lines;
      units = us;
      left = left;
    }

-- what there may be at most, by the calls, the orders, the activities and the grants at opening
abbrev pub run_budget : ℕ → List SetupLine → Units → List Order → ℕ
run_budget memory lines us left =
    budget_of (unit_total us) (length left) (act_count lines) (length (opening memory lines).grants)

-- at opening the sum is at most one less than the budget
abbrev pub OpeningIsBelowBudget : Type 0
OpeningIsBelowBudget =
    (memory : ℕ) (lines : List SetupLine) (us : Units) (left : List Order)
    → worth (opening_run memory lines us left) + 1 ≤ run_budget memory lines us left

-- so no run has as many entries as the budget
abbrev pub RunsStayWithinBudget : Type 0
RunsStayWithinBudget =
    (memory : ℕ) (lines : List SetupLine) (us : Units) (left : List Order) (es : List Entry)
    (n : RunState)
    → Fine (opening_placement (unit_acts us) lines)
    → 1 ≤ (opening_placement (unit_acts us) lines).quantum
    → RunsTo (opening_run memory lines us left) es n
    → length es + 1 ≤ run_budget memory lines us left

-- nor as many as a valid setup's budget, where its programs may make as many calls as they weigh
abbrev pub SetupsStayWithinBudget : Type 0
SetupsStayWithinBudget =
    (setup : SetupValue) (us : Units) (left : List Order) (es : List Entry) (n : RunState)
    → IsValid setup
    → unit_total us ≡ (facts_of setup).weight
    → Fine (opening_placement (unit_acts us) setup.lines)
    → 1 ≤ (opening_placement (unit_acts us) setup.lines).quantum
    → RunsTo (opening_run setup.memory setup.lines us left) es n
    → length es + 1 ≤ budget setup (length left)
