-- The ideal state and the places of a machine.
use Rattle.std.specs.Prelude.{ℕ, ◌+◌, Bool, false, ◌==◌, List, [], ◌∷◌, ◌++◌, map, Option, Some, None, if◌then◌else◌}
use Rattle.std.specs.List.{list_any}
use Rattle.m3_base.specs.declared.ids.FlightId.{FlightId}
use Rattle.m3_base.specs.declared.packet.Packet.{Packet}
use Rattle.m3_base.specs.Ideal.Flights.{name_of, sorted_by_name}
use Rattle.m3_base.specs.Ideal.Context.{Context}
use Rattle.m3_base.specs.Ideal.State.{State, Grant, new_context_in}
use Rattle.m3_base.specs.Ideal.State as ideal
use Rattle.m3_base.specs.Placement.State as places_state
use Rattle.m3_base.specs.Placement.State.{Placement, PlacedActivity, LinkToken, Residency}
use Rattle.m3_model.specs.Config.Site.{Home, Site}
use Rattle.m3_model.specs.Parcel.{Parcel, Data, Save, Saved, Restore, Yield, Closed}
use Rattle.m3_model.specs.Tile.State.{Resident, Tile}
use Rattle.m3_model.specs.Kernel.State.{EntryResidency, Is_placed, Is_leaving, Is_resting, Is_coming, ActivityEntry}
use Rattle.m3_model.specs.Tile.Step.{resident_of, act_in, has_ended}
use Rattle.m3_model.specs.Kernel.Step.{entry_of}
use Rattle.m3_model.specs.Machine.{Machine, tile_at}

-- ---- what a parcel has

abbrev pub contexts_in : Parcel → List Context
contexts_in (Data p) = []
contexts_in (Save a) = []
contexts_in (Saved a c waiting ended) = c ∷ []
contexts_in (Restore a c xs) = c ∷ []
contexts_in (Yield a) = []
contexts_in (Closed g) = []

abbrev pub packets_in : Parcel → List Packet
packets_in (Data p) = p ∷ []
packets_in (Save a) = []
packets_in (Saved a c waiting ended) = []
packets_in (Restore a c xs) = []
packets_in (Yield a) = []
packets_in (Closed g) = []

abbrev pub closed_in : Parcel → List ℕ
closed_in (Data p) = []
closed_in (Save a) = []
closed_in (Saved a c waiting ended) = []
closed_in (Restore a c xs) = []
closed_in (Yield a) = []
closed_in (Closed g) = g ∷ []

-- ---- what all parcels have, and what parts have

module _ {X Y : Type 0} (f : X → List Y) where
  abbrev pub flat_map : List X → List Y
  flat_map [] = []
  flat_map (x ∷ xs) = f x ++ flat_map xs

  abbrev pub flat_links : List (List X) → List Y
  flat_links [] = []
  flat_links (xs ∷ xss) = flat_map xs ++ flat_links xss

abbrev pub option_list : {X : Type 0} → Option X → List X
option_list None = []
option_list (Some x) = x ∷ []

abbrev pub tile_contexts : Tile → List Context
tile_contexts t = option_list t.current

abbrev pub residency_contexts : EntryResidency → List Context
residency_contexts Is_placed = []
residency_contexts Is_leaving = []
residency_contexts (Is_resting x) = x.context ∷ []
residency_contexts (Is_coming x) = x.context ∷ []

abbrev pub entry_contexts : ActivityEntry → List Context
entry_contexts x = residency_contexts x.seating

abbrev pub held_by : ActivityEntry → List Packet
held_by x = x.hold

abbrev pub all_contexts : Machine → List Context
all_contexts m = flat_map tile_contexts m.tiles ++ (flat_map entry_contexts m.kernel.seats ++ flat_links contexts_in m.links)

abbrev pub all_packets : Machine → List Packet
all_packets m = flat_map held_by m.kernel.seats ++ flat_links packets_in m.links

abbrev pub all_closed : Machine → List ℕ
all_closed m = flat_links closed_in m.links

-- ---- the ideal state

abbrev pub sorted_by_act : List Context → List Context
sorted_by_act [] = []
sorted_by_act (c ∷ cs) = new_context_in c (sorted_by_act cs)

abbrev pub is_in : List ℕ → ℕ → Bool
is_in ns n = list_any (λ g. g == n) ns

abbrev pub closed_if : Bool → Grant → Grant
closed_if b x = if b then record x { standing = ideal.Closed } else x

-- a grant is closed where its Closed is on a link
abbrev pub closed_from : ℕ → List ℕ → List Grant → List Grant
closed_from n ns [] = []
closed_from n ns (x ∷ gs) = closed_if (is_in ns n) x ∷ closed_from (n + 1) ns gs

abbrev pub ideal_of : Machine → State
ideal_of m =
    record {
      memory = m.memory;
      contexts = sorted_by_act (all_contexts m);
      flights = sorted_by_name (all_packets m);
      kernel_next = m.kernel.next;
      grants = closed_from 1 (all_closed m) m.kernel.grants;
    }

-- ---- the places

abbrev pub link_token : Parcel → LinkToken
link_token (Data p) = places_state.Data (name_of p)
link_token (Save a) = places_state.Save a
link_token (Saved a c waiting ended) = places_state.Saved c.act waiting ended
link_token (Restore a c xs) = places_state.Restore c.act
link_token (Yield a) = places_state.Yield a
link_token (Closed g) = places_state.Closed g

abbrev pub residency_of : EntryResidency → Residency
residency_of Is_placed = places_state.Placed
residency_of Is_leaving = places_state.Leaving
residency_of (Is_resting x) = places_state.Resting
residency_of (Is_coming x) = places_state.Coming

abbrev pub residency_in : Option ActivityEntry → Residency
residency_in None = places_state.Placed
residency_in (Some x) = residency_of x.seating

abbrev pub hold_in : Option ActivityEntry → List FlightId
hold_in None = []
hold_in (Some x) = map name_of x.hold

abbrev pub pending_in : Option Resident → Option ℕ
pending_in None = None
pending_in (Some y) = y.pending

abbrev pub moves_in : Option Resident → ℕ
moves_in None = 0
moves_in (Some y) = y.moves

abbrev pub yield_sent_in : Option Resident → Bool
yield_sent_in None = false
yield_sent_in (Some y) = y.yield_sent

abbrev pub actor_by : Home → Option ActivityEntry → Option Resident → PlacedActivity
actor_by x seat stay =
    record {
      act = x.act;
      home = x.tile;
      place = residency_in seat;
      hold = hold_in seat;
      has_program = x.has_program;
      pending = pending_in stay;
      ended = has_ended stay;
      moves = moves_in stay;
      yield_sent = yield_sent_in stay;
    }

abbrev pub actor_in : Machine → Home → PlacedActivity
actor_in m x = actor_by x (entry_of x.act m.kernel) (resident_of x.act (tile_at x.tile m))

abbrev pub current_act : Tile → Option ℕ
current_act t = act_in t.current

abbrev pub placement_of : Site → Machine → Placement
placement_of h m =
    record {
      current = map current_act m.tiles;
      actors = map (actor_in m) h.homes;
      links = map (λ xs. map link_token xs) m.links;
      ready = m.kernel.ready;
      yielded = m.kernel.yielded;
      quantum = h.quantum;
    }
