-- A link loses a packet from its front: the machine stays sound, and lacks just this flight.
use Rattle.std.proofs.Common.{◌≡◌, ℕ, ◌+◌, ◌*◌, ◌<◌, ◌≤◌, true, List, [], ◌∷◌, ◌++◌, None, refl, sym, subst, ◌∙◌, ap, arith, set, get_or, length, map}
use Rattle.std.proofs.lemmas.List.{map-set, length-set}
use Rattle.m3_base.specs.declared.ids.FlightId.{FlightId}
use Rattle.m3_base.specs.declared.packet.Packet.{Packet}
use Rattle.m3_base.specs.Lists.Counting.{how_many}
use Rattle.m3_base.specs.Ideal.Flights.{name_of, flight, new_flight, sorted_by_name}
use Rattle.m3_base.specs.Ideal.State.{context_of, DistinctActs}
use Rattle.m3_base.specs.Placement.State as places_state
use Rattle.m3_base.specs.Lists.EachElement.{Each}
use Rattle.m3_model.specs.Config.Site.{Site}
use Rattle.m3_model.specs.Parcel.{Parcel, Data}
use Rattle.m3_model.specs.Config.KnownActivities.{is_named_context}
use Rattle.m3_model.specs.Machine.{Machine, tile_at, link_at, with_link}
use Rattle.m3_model.specs.Abstraction.{flat_map, flat_links, tile_contexts, entry_contexts, held_by, contexts_in, packets_in, closed_in, all_contexts, all_packets, all_closed, sorted_by_act, closed_from, is_in, ideal_of, link_token, current_act, actor_in, placement_of}
use Rattle.m3_model.specs.Invariant.Distinct.{DistinctClosed}
use Rattle.m3_model.specs.Invariant.LinkWalk.{CurrentAlongLink, placed_on}
use Rattle.m3_model.specs.Invariant.Housing.{IsPresent}
use Rattle.m3_model.specs.Invariant.Parcels.{ParcelOk, YieldsBeforeSaved}
use Rattle.m3_model.specs.Invariant.Scheduling.{is_save_of, saves_in_flight}
use Rattle.m3_model.specs.Invariant.Structure.{MachineStructure}
use Rattle.m3_refine.proofs.lists.Insertion.{Inserts, inserts_left, pop_none, pop_one}
use Rattle.m3_refine.proofs.abstraction.MoveWithinMachine.{by_name-inserts, IsInFlight}
use Rattle.m3_refine.proofs.abstraction.MoveContext.{name_inserts}
use Rattle.m3_refine.proofs.abstraction.FindActor.{tokens}
use Rattle.m3_refine.proofs.events.take.BounceStep.{packet_at, name-by_name}
use Rattle.m3_refine.proofs.lists.Update.{links_set, is_link}
use Rattle.m3_refine.proofs.abstraction.CurrentAlongLink.{front_data}
use Rattle.m3_base.specs.Ideal.FlightNames.{Distinct}
use Rattle.m3_base.proofs.Counting.{total-set}

absent_less : (n : FlightId) (f : List Packet) (p : Packet) (b : List Packet) → flight n (f ++ p ∷ b) ≡ None → flight n (f ++ b) ≡ None
absent_less n [] p b h = grind (arith, h)
absent_less n (x ∷ f) p b h = grind (arith, h, absent_less n f p b)

names_less : (f : List Packet) (p : Packet) (b : List Packet) → Distinct (f ++ p ∷ b) → Distinct (f ++ b)
names_less [] p b h = h.1
names_less (x ∷ f) p b h = (absent_less (name_of x) f p b h.0, names_less f p b h.1)

pub names_drop : (p : Packet) (xs ys : List Packet) → Inserts p xs ys → Distinct ys → Distinct xs
names_drop p xs ys h a = subst Distinct (sym h.without) (names_less h.front p h.back (subst Distinct h.whole a))

module _ (h : Site) (m : Machine) (from to : ℕ) (hf : from < 16) (ht : to < 16) (sound : MachineStructure h m) (p : Packet) (rest : List Parcel) (g : link_at from to m ≡ Data p ∷ rest) where
  abbrev i : ℕ
  i = 16 * from + to

  in_links : i < length m.links
  in_links = is_link m.links from to rest hf ht sound.links

  abbrev pub popped : Machine
  popped = with_link from to rest m

  contexts_same : all_contexts popped ≡ all_contexts m
  contexts_same = ap (λ l. flat_map tile_contexts m.tiles ++ (flat_map entry_contexts m.kernel.seats ++ l)) (pop_none contexts_in m.links i (Data p) rest in_links g refl)

  closed_same : all_closed popped ≡ all_closed m
  closed_same = pop_none closed_in m.links i (Data p) rest in_links g refl

  pub popped_packet : Inserts p (all_packets popped) (all_packets m)
  popped_packet =
      inserts_left (flat_map held_by m.kernel.seats) p (flat_links packets_in (set m.links i rest)) (flat_links packets_in m.links) (pop_one packets_in m.links i (Data p) rest p in_links g refl)

  pub popped_absent : flight (name_of p) (all_packets popped) ≡ None
  popped_absent = name_inserts p (all_packets popped) (all_packets m) popped_packet sound.names

  -- ---- the ideal state lacks this flight

  pub popped_apart : flight (name_of p) (ideal_of popped).flights ≡ None
  popped_apart = name-by_name (name_of p) (all_packets popped) popped_absent

  pub popped_flights : (ideal_of m).flights ≡ new_flight p (ideal_of popped).flights
  popped_flights = by_name-inserts p (all_packets popped) (all_packets m) popped_packet popped_absent

  pub popped_flies : IsInFlight m p
  popped_flies = packet_at p (all_packets popped) (all_packets m) popped_packet popped_absent

  pub popped_state : ideal_of popped ≡ record (ideal_of m) { flights = (ideal_of popped).flights }
  popped_state =
      λ k. record {
        memory = m.memory;
        contexts = sorted_by_act (contexts_same k);
        flights = sorted_by_name (all_packets popped);
        kernel_next = m.kernel.next;
        grants = closed_from 1 (closed_same k) m.kernel.grants;
      }

  pub popped_places : placement_of h popped ≡ places_state.with_link from to (map link_token rest) (placement_of h m)
  popped_places =
      let links : tokens (set m.links i rest) ≡ set (tokens m.links) i (map link_token rest) = map-set (λ xs. map link_token xs) m.links i rest in
      λ k. record {
        current = map current_act m.tiles;
        actors = map (actor_in m) h.homes;
        links = links k;
        ready = m.kernel.ready;
        yielded = m.kernel.yielded;
        quantum = h.quantum;
      }

  -- what is known of the packet
  pub popped_ok : ParcelOk h m.kernel m.tiles from to (Data p)
  popped_ok = (subst (Each (ParcelOk h m.kernel m.tiles from to)) g (sound.parcels from to hf ht)).0

  -- ---- it is as sound

  parcels_left : (a b : ℕ) → a < 16 → b < 16 → Each (ParcelOk h m.kernel m.tiles a b) (link_at a b popped)
  parcels_left a b ha hb =
      links_set m.links from to rest hf ht sound.links (λ x y qs. Each (ParcelOk h m.kernel m.tiles x y) qs) a b hb (sound.parcels a b ha hb)
      (λ e d. subst (λ x. Each (ParcelOk h m.kernel m.tiles x b) rest) e (subst (λ y. Each (ParcelOk h m.kernel m.tiles from y) rest) d (subst (Each (ParcelOk h m.kernel m.tiles from to)) g (sound.parcels from to hf ht)).1))

  leavings_left : (a : ℕ) → saves_in_flight a popped.links ≡ saves_in_flight a m.links
  leavings_left a =
      let r = total-set (λ qs. how_many (is_save_of a) qs) m.links i rest [] in_links in
      let e : how_many (is_save_of a) (get_or m.links i []) ≡ how_many (is_save_of a) rest = ap (how_many (is_save_of a)) g ∙ omega arith in
      omega arith

  walks_left : (t : ℕ) → 2 ≤ t → t < 16 → CurrentAlongLink (current_act (tile_at t m)) (link_at 0 t popped) (placed_on h t m.kernel)
  walks_left t low high =
      links_set m.links from to rest hf ht sound.links (λ x y qs. x ≡ 0 → CurrentAlongLink (current_act (tile_at y m)) qs (placed_on h y m.kernel)) 0 t high (λ z. sound.seated.walks t low high)
      (λ e d z. front (subst (λ x. link_at x t m ≡ Data p ∷ rest) e (subst (λ y. link_at from y m ≡ Data p ∷ rest) d g))) refl
    where
      front : link_at 0 t m ≡ Data p ∷ rest → CurrentAlongLink (current_act (tile_at t m)) rest (placed_on h t m.kernel)
      front e = (front_data (current_act (tile_at t m)) p rest (placed_on h t m.kernel) (subst (λ qs. CurrentAlongLink (current_act (tile_at t m)) qs (placed_on h t m.kernel)) e (sound.seated.walks t low high))).1

  orderly_left : (t : ℕ) → t < 16 → YieldsBeforeSaved (link_at t 0 popped)
  orderly_left t high =
      links_set m.links from to rest hf ht sound.links (λ x y qs. y ≡ 0 → YieldsBeforeSaved qs) t 0 (omega arith) (λ z. sound.seated.orderly t high)
      (λ e d z. subst YieldsBeforeSaved (subst (λ x. link_at x 0 m ≡ Data p ∷ rest) e (subst (λ y. link_at from y m ≡ Data p ∷ rest) d g)) (sound.seated.orderly t high)) refl

  pub popped_sound : MachineStructure h popped
  popped_sound =
      record {
        setup = sound.setup;
        tiles = sound.tiles;
        links = length-set m.links i rest ∙ sound.links;
        acts = subst DistinctActs (sym contexts_same) sound.acts;
        known = λ a e. subst (λ l. IsPresent (context_of a l)) (sym contexts_same) (sound.known a e);
        named = subst (Each (λ c. is_named_context h c ≡ true)) (sym contexts_same) sound.named;
        names = names_drop p (all_packets popped) (all_packets m) popped_packet sound.names;
        housed = record { seats = sound.housed.seats; tiles = sound.housed.tiles; stays = sound.housed.stays; current = sound.housed.current };
        parcels = parcels_left;
        seated = record {
          seats = sound.seated.seats;
          filled = sound.seated.filled;
          leaving = sound.seated.leaving;
          departing = λ a. leavings_left a ∙ sound.seated.departing a;
          walks = walks_left;
          orderly = orderly_left;
        };
        closed = subst DistinctClosed (sym closed_same) sound.closed;
        shut = λ g e. sound.shut g (subst (λ l. is_in l g ≡ true) closed_same e);
        holders = sound.holders;
      }
