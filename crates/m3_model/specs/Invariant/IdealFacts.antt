-- What the invariant of the ideal state gives, at the state of a machine.
use Rattle.std.specs.Prelude.{◌≡◌, ℕ, ◌+◌, ◌≤◌, true, false, List, [], ◌∷◌, length, Some, None, ◌⊎◌}
use Rattle.m3_base.specs.declared.ids.FlightId.{FlightId}
use Rattle.m3_base.specs.declared.packet.Packet.{Packet}
use Rattle.m3_base.specs.Ideal.Flights.{flight}
use Rattle.m3_base.specs.Ideal.Context.{Context, endpoint}
use Rattle.m3_base.specs.Ideal.Issue.{next_id}
use Rattle.m3_base.specs.Ideal.Landing.{grant_of, has_closing}
use Rattle.m3_base.specs.Ideal.State.{Grant, grant_in, context_of}
use Rattle.m3_base.specs.Placement.Routing.{target}
use Rattle.m3_base.specs.Ideal.Acceptance.{fits}
use Rattle.m3_model.specs.Parcel.{Parcel, Data}
use Rattle.m3_model.specs.Kernel.State.{SavedActivity, Is_resting, Is_coming, ActivityEntry}
use Rattle.m3_model.specs.Kernel.Step.{entry_of, kernel_id}
use Rattle.m3_model.specs.Machine.{Machine, tile_at, link_at}
use Rattle.m3_model.specs.Abstraction.{ideal_of}
use Rattle.m3_base.specs.Ideal.GrantHolder.{HeldThere}

-- ---- what the ideal state's own invariant gives, at the state of this machine

pub record IdealFacts (m : Machine) : Type 0 where
  -- what comes to the current activity fits it, and so does the front of each hold list
  pub fits_here : (t from : ℕ) (p : Packet) (qs : List Parcel) (c : Context)
      → link_at from t m ≡ Data p ∷ qs → (tile_at t m).current ≡ Some c → target p ≡ Some c.act → fits c p ≡ true
  pub fits_away : (x : ActivityEntry) (y : SavedActivity) (p : Packet) (ps : List Packet)
      → entry_of x.act m.kernel ≡ Some x → (x.seating ≡ Is_resting y) ⊎ (x.seating ≡ Is_coming y) → x.hold ≡ p ∷ ps
      → fits y.context p ≡ true
  -- reads and writes lie inside memory
  pub reads : (id x : FlightId) (g place : ℕ) (buffer : List ℕ)
      → flight id (ideal_of m).flights ≡ Some (Packet.Read x g place buffer) → place + length buffer ≤ length m.memory
  pub writes : (id x : FlightId) (g place : ℕ) (payload : List ℕ)
      → flight id (ideal_of m).flights ≡ Some (Packet.Write x g place payload) → place + length payload ≤ length m.memory
  -- a record, and a flying Close, have an open grant that is held there
  pub records : (a ep g : ℕ) (c : Context)
      → context_of a (ideal_of m).contexts ≡ Some c → grant_of (endpoint c ep) ≡ Some g → HeldThere (ideal_of m).grants g a ep
  pub closes : (id x : FlightId) (to ep g : ℕ)
      → flight id (ideal_of m).flights ≡ Some (Packet.Close x to ep g) → HeldThere (ideal_of m).grants g to ep
  -- whose Close was sent, where the record is closing
  pub sent : (a ep g : ℕ) (c : Context) (x : Grant)
      → context_of a (ideal_of m).contexts ≡ Some c → has_closing g (endpoint c ep) ≡ true
      → grant_in (ideal_of m).grants g ≡ Some x → x.close_sent ≡ true
  pub sent_flying : (id y : FlightId) (to ep g : ℕ) (x : Grant)
      → flight id (ideal_of m).flights ≡ Some (Packet.Close y to ep g)
      → grant_in (ideal_of m).grants g ≡ Some x → x.close_sent ≡ true
  -- the next flight's name is free
  pub fresh : (a : ℕ) (c : Context)
      → context_of a (ideal_of m).contexts ≡ Some c → flight (next_id c) (ideal_of m).flights ≡ None
  pub fresh_kernel : flight (kernel_id m.kernel) (ideal_of m).flights ≡ None
