-- What keeps the flags of Saved in order, and what that takes of the rest.
use Rattle.std.specs.Prelude.{◌≡◌, ℕ, true, false, List, ◌∷◌, Option, Some, None}
use Rattle.m3_base.specs.declared.ids.FlightId.{FlightId}
use Rattle.m3_base.specs.declared.event.Event.{Event}
use Rattle.m3_base.specs.declared.event.Made.{Made}
use Rattle.m3_base.specs.declared.setup_line.SetupLine.{SetupLine}
use Rattle.m3_base.specs.Ideal.Flights.{flight}
use Rattle.m3_base.specs.Ideal.State.{State}
use Rattle.m3_base.specs.Placement.State.{Placement, PlacedActivity, LinkToken, Data, actor, link, current_of, is_leaving}
use Rattle.m3_base.specs.Placement.Landing.{PlacementResult}
use Rattle.m3_base.specs.Placement.Routing.{target_of}
use Rattle.m3_base.specs.Placement.Step.{placement_step}
use Rattle.m3_base.specs.Placement.Opening.{opening_placement}
use Rattle.m3_quiet.specs.Potential.{is_there}
use Rattle.m3_quiet.specs.Facts.{Fine, RecordsHeld}
use Rattle.m3_quiet.specs.Schedule.{link_at}
use Rattle.m3_quiet.specs.Flags.{Flagged, has_saved}

-- what this takes of the rest
pub record Parted (s : State) (p : Placement) : Type 0 where
  pub fine : Fine p
  -- an activity with a Saved on a link leaves, and is current nowhere
  pub leaves :
      (k a : ℕ) (x : PlacedActivity)
      → has_saved a (link_at k p) ≡ true
      → actor a p ≡ Some x
      → is_leaving x.place ≡ true
  pub gone :
      (k a : ℕ) (x : PlacedActivity)
      → has_saved a (link_at k p) ≡ true
      → actor a p ≡ Some x
      → is_there p.current x ≡ false
  -- data for tile 1 is for no activity, and what is held is for its own
  pub memory :
      (from : ℕ) (id : FlightId) (ts : List LinkToken)
      → link from 1 p ≡ Data id ∷ ts
      → target_of (flight id s.flights) ≡ None
  pub held :
      (a : ℕ) (x : PlacedActivity) (id : FlightId) (ids : List FlightId)
      → actor a p ≡ Some x
      → x.hold ≡ id ∷ ids
      → target_of (flight id s.flights) ≡ Some a
  -- a tile's current activity has its home there
  pub current : (t a : ℕ) (x : PlacedActivity) → current_of t p ≡ Some a → actor a p ≡ Some x → x.home ≡ t
  -- a record's grant is held by its activity
  pub records : RecordsHeld s

abbrev pub FlaggedAfter : Option PlacementResult → Type 0
FlaggedAfter None = Unit {0}
FlaggedAfter (Some d) = Flagged d.state d.places

abbrev pub FlagsStay : Type 0
FlagsStay =
    (s : State) (p : Placement) (e : Event) (made : Option Made)
    → Parted s p
    → Flagged s p
    → FlaggedAfter (placement_step s p e made)

abbrev pub FlagsOpen : Type 0
FlagsOpen =
    (s : State) (programs : List ℕ) (lines : List SetupLine)
    → Flagged s (opening_placement programs lines)
