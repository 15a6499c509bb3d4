-- What keeps the ready lists and the Yields in order, and what that takes of the rest.
use Rattle.std.specs.Prelude.{◌≡◌, ℕ, ◌≤◌, ◌||◌, Bool, true, false, List, ◌∷◌, Option, Some, None}
use Rattle.m3_base.specs.declared.event.Event.{Event}
use Rattle.m3_base.specs.declared.event.Made.{Made}
use Rattle.m3_base.specs.declared.setup_line.SetupLine.{SetupLine}
use Rattle.m3_base.specs.Ideal.State.{State}
use Rattle.m3_base.specs.Placement.State.{Placement, PlacedActivity, LinkToken, Save, Saved, Restore, actor, link, current_of, is_placed, is_leaving, is_resting, is_coming}
use Rattle.m3_base.specs.Placement.Landing.{PlacementResult}
use Rattle.m3_base.specs.Placement.Step.{placement_step}
use Rattle.m3_base.specs.Placement.Opening.{opening_placement}
use Rattle.m3_quiet.specs.Potential.{is_there}
use Rattle.m3_quiet.specs.Facts.{Fine}
use Rattle.m3_quiet.specs.Schedule.{has_yield, link_at, Scheduled}

-- what this takes of the rest: of the walk along the kernel's links, and of who is at a tile
pub record Walked (p : Placement) : Type 0 where
  -- a tile's Placed and Leaving activities are one
  pub alone :
      (a b : ℕ) (x y : PlacedActivity)
      → actor a p ≡ Some x
      → actor b p ≡ Some y
      → x.home ≡ y.home
      → (is_placed x.place || is_leaving x.place) ≡ true
      → is_placed y.place ≡ true
      → a ≡ b
  -- no Yield stands behind the Saved of its stay
  pub saved :
      (from a k : ℕ) (waiting ended : Bool) (ts : List LinkToken)
      → link from 0 p ≡ Saved a waiting ended ∷ ts
      → has_yield a (link_at k p) ≡ false
  pub leaves :
      (from a : ℕ) (waiting ended : Bool) (ts : List LinkToken) (x : PlacedActivity)
      → link from 0 p ≡ Saved a waiting ended ∷ ts
      → actor a p ≡ Some x
      → is_leaving x.place ≡ true
  -- Save meets its activity current and Leaving, and Restore meets none
  pub saves :
      (from t a : ℕ) (ts : List LinkToken)
      → link from t p ≡ Save a ∷ ts
      → current_of t p ≡ Some a
  pub going :
      (from t a : ℕ) (ts : List LinkToken) (x : PlacedActivity)
      → link from t p ≡ Save a ∷ ts
      → actor a p ≡ Some x
      → is_leaving x.place ≡ true
  pub restores :
      (from t a : ℕ) (ts : List LinkToken)
      → link from t p ≡ Restore a ∷ ts
      → current_of t p ≡ None
  pub comes :
      (from t a : ℕ) (ts : List LinkToken) (x : PlacedActivity)
      → link from t p ≡ Restore a ∷ ts
      → actor a p ≡ Some x
      → x.home ≡ t
  -- who rests or comes is current nowhere
  pub away :
      (a : ℕ) (x : PlacedActivity)
      → actor a p ≡ Some x
      → (is_resting x.place || is_coming x.place) ≡ true
      → is_there p.current x ≡ false

abbrev pub ScheduledAfter : Option PlacementResult → Type 0
ScheduledAfter None = Unit {0}
ScheduledAfter (Some d) = Scheduled d.places

-- every step keeps it
abbrev pub ScheduleStays : Type 0
ScheduleStays =
    (s : State) (p : Placement) (e : Event) (made : Option Made)
    → Walked p
    → Scheduled p
    → ScheduledAfter (placement_step s p e made)

-- at opening it holds, where each activity is declared once, at a tile from 2 on, and the quantum
-- is at least 1
abbrev pub ScheduleOpens : Type 0
ScheduleOpens =
    (programs : List ℕ) (lines : List SetupLine)
    → Fine (opening_placement programs lines)
    → 1 ≤ (opening_placement programs lines).quantum
    → Scheduled (opening_placement programs lines)
