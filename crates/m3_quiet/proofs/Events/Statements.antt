-- What is stated of each kind of event, where the places are laid out.
use Rattle.std.specs.Prelude.{◌≡◌, ℕ, ◌<◌, ◌≤◌, true, false, List, ◌∷◌, length, Some, None}
use Rattle.m3_base.specs.declared.event.Made.{Made}
use Rattle.m3_base.specs.declared.event.Event.{Event}
use Rattle.m3_base.specs.declared.order.Order.{Order}
use Rattle.m3_base.specs.declared.order.GrantLine.{GrantLine}
use Rattle.m3_base.specs.declared.event.No.{No}
use Rattle.m3_base.specs.Ideal.GrantRules.{make_refusal}
use Rattle.m3_base.specs.declared.ids.FlightId.{FlightId}
use Rattle.m3_base.specs.Ideal.Flights.{flight}
use Rattle.m3_base.specs.Ideal.State.{State, Grant, grant_in}
use Rattle.m3_base.specs.Placement.State.{Placement, PlacedActivity, LinkToken, Data, Save, Yield, Closed, actor, current_of}
use Rattle.m3_base.specs.Placement.Routing.{target_of}
use Rattle.m3_base.specs.Placement.Take.{is_here}
use Rattle.m3_base.specs.Placement.Step.{placement_step}
use Rattle.m3_quiet.specs.Potential.{Units}
use Rattle.m3_quiet.specs.Descent.{Falls}

-- what is asked of the places: all links are there, and each activity has a tile from 2 on
pub record PlacesOk (p : Placement) : Type 0 where
  pub links : length p.links ≡ 256
  pub homes : (a : ℕ) (x : PlacedActivity) → actor a p ≡ Some x → (2 ≤ x.home) × (x.home < 16)

-- the fronts of links that a take only passes on
pub data Passes (s : State) (p : Placement) : ℕ → ℕ → LinkToken → Type 0 where
  -- the kernel takes a Yield, or data
  At_kernel_yield : (from a : ℕ) → from < 16 → Passes s p 0 from (Yield a)
  At_kernel_data : (from : ℕ) (id : FlightId) → from < 16 → Passes s p 0 from (Data id)
  -- or Closed of a grant whose Close was sent
  At_kernel_closed :
      (from g : ℕ)
      → from < 16
      → ((x : Grant) → grant_in s.grants g ≡ Some x → x.close_sent ≡ true)
      → Passes s p 0 from (Closed g)
  -- a tile takes Save, or data for another activity that doesn't come from the kernel
  At_tile_save : (to from a : ℕ) → 1 ≤ to → to < 16 → from < 16 → Passes s p to from (Save a)
  At_tile_bounced :
      (to from : ℕ) (id : FlightId)
      → 2 ≤ to
      → to < 16
      → 1 ≤ from
      → from < 16
      → is_here (target_of (flight id s.flights)) (current_of to p) ≡ false
      → Passes s p to from (Data id)

-- turns that make no command: by quantum, of a pending Await, and the end
pub data Calm (s : State) (p : Placement) (x : PlacedActivity) : Made → Type 0 where
  By_quantum : 1 ≤ p.quantum → Calm s p x Made.Quantum
  Awaits_again : (ep : ℕ) → x.pending ≡ Some ep → Calm s p x (Made.Await ep)
  Ends : Calm s p x Made.End

abbrev pub TurnsFall : Type 0
TurnsFall =
    (s : State) (p : Placement) (us : Units) (left : List Order) (a : ℕ) (x : PlacedActivity) (m : Made)
    → PlacesOk p
    → actor a p ≡ Some x
    → x.has_program ≡ true
    → Calm s p x m
    → Falls s p us left (Event.Turn a) (Some m) (placement_step s p (Event.Turn a) (Some m))

-- ---- orders that change no link

-- a revoke, and any order that is refused
pub data Mild (s : State) (p : Placement) : Order → Type 0 where
  Revokes : (g : ℕ) → Mild s p (Order.Revoke g)
  Refuses :
      (line : GrantLine) (why : No)
      → make_refusal (length s.memory) s.grants line ≡ Some why
      → Mild s p (Order.Grant line)

abbrev pub OrdersFall : Type 0
OrdersFall =
    (s : State) (p : Placement) (us : Units) (o : Order) (left : List Order)
    → Mild s p o
    → Falls s p us (o ∷ left) (Event.Order o) None (placement_step s p (Event.Order o) None)
