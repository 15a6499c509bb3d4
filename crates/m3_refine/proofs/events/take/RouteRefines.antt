-- The kernel routes a packet that is on its way nowhere yet: on the home link of a Placed activity, else into the hold list.
use Rattle.std.proofs.Common.{◌≡◌, ℕ, ◌+◌, ◌<◌, ◌≤◌, Bool, true, false, cond, List, [], ◌∷◌, ◌++◌, Some, None, refl, sym, subst, ◌∙◌, ap, arith, append_assoc, Option, inr}
use Rattle.std.specs.Prelude.{if◌then◌else◌, ◌==◌, ◌&&◌, is_some}
use Rattle.std.proofs.lemmas.Bool.Decides.{nat_tests}
use Rattle.std.proofs.lemmas.List.{map-append}
use Rattle.m3_base.specs.declared.ids.FlightId.{FlightId}
use Rattle.m3_base.specs.declared.packet.Packet.{Packet}
use Rattle.m3_base.specs.Lists.Keyed as keyed
use Rattle.m3_base.specs.Lists.Counting.{one, how_many}
use Rattle.m3_base.specs.Ideal.Flights.{name_of, flight, new_flight}
use Rattle.m3_base.specs.Ideal.State.{same_act, context_of, DistinctActs}
use Rattle.m3_base.specs.Placement.State as places_state
use Rattle.m3_base.specs.Placement.Routing as places_routing
use Rattle.m3_base.specs.Placement.Routing.{target}
use Rattle.m3_base.specs.Lists.EachElement.{Each}
use Rattle.m3_merge.proofs.MergedIsRun.{each_append, each_map}
use Rattle.m3_model.specs.Config.Site.{Home, Site, home_act, home_of, tile_of}
use Rattle.m3_model.specs.Parcel.{Data}
use Rattle.m3_model.specs.Kernel.State.{EntryResidency, Is_placed, Is_leaving, Is_resting, Is_coming, ActivityEntry, Kernel}
use Rattle.m3_model.specs.Config.KnownActivities.{is_home, is_named, is_named_context}
use Rattle.m3_model.specs.Tile.Step.{resident_of}
use Rattle.m3_model.specs.Kernel.Step.{entry_act, entry_of, with_held, is_placed_entry, is_leaving_at, route_to, route, entry_for, Routed}
use Rattle.m3_model.specs.Machine.{Machine, tile_at, link_at, with_parcel, with_parcels}
use Rattle.m3_model.specs.Abstraction.{flat_map, flat_links, tile_contexts, entry_contexts, held_by, packets_in, contexts_in, all_contexts, all_packets, all_closed, sorted_by_act, closed_from, ideal_of, actor_in, actor_by, current_act, placement_of}
use Rattle.m3_model.specs.Invariant.Housing.{IsPresent}
use Rattle.m3_model.specs.Invariant.LinkWalk.{act_of_entry, placed_on, CurrentAlongLink}
use Rattle.m3_model.specs.Invariant.Scheduling.{is_placed_at, is_coming_at, has_home, is_leaving_of, EntryOk, HoldOk}
use Rattle.m3_model.specs.Invariant.Parcels.{is_here_entry, ParcelOk, HasDestination}
use Rattle.m3_model.specs.Invariant.Structure.{MachineStructure}
use Rattle.m3_refine.proofs.lists.Insertion.{Inserts, inserts_right}
use Rattle.m3_refine.proofs.lists.Replacement.{around_replaced}
use Rattle.m3_refine.proofs.abstraction.MoveWithinMachine.{by_name-inserts}
use Rattle.m3_refine.proofs.abstraction.FindActor.{find_actor}
use Rattle.m3_refine.proofs.abstraction.CurrentAlongLink.{walks-data}
use Rattle.m3_refine.proofs.lists.Update.{links_set}
use Rattle.m3_refine.proofs.abstraction.PushParcel.{names_add, longer_places, sending_state, sending_sound}
use Rattle.m3_refine.proofs.arrival.AnswerAndClosed.{home_tile}
use Rattle.m3_refine.proofs.abstraction.EntriesMatchActors.{SeatOf, AreSeats, are_seats, actor_place, seat_tile, order_replaced, placed_one, placed_same}
use Rattle.m3_refine.proofs.abstraction.ReplaceEntry.{seat_then, seat_now, seat_counts, placed_still, parcel_kernel, actors_then}
use Rattle.m3_base.proofs.Options.{some_if_some}

-- ---- the seat of a home

pub seat_of_home : (h : Site) (k : Kernel) (a : ℕ) (xs : List ActivityEntry) (ys : List Home) (y : Home) → AreSeats h k xs ys → keyed.find home_act same_act a ys ≡ Some y → (x : ActivityEntry) × SeatOf h k x y
seat_of_home h k a [] [] y s e = absurd (cc)
seat_of_home h k a (x ∷ xs) [] y s e = absurd s
seat_of_home h k a [] (z ∷ ys) y s e = absurd s
seat_of_home h k a (x ∷ xs) (z ∷ ys) y s e = by_test (a == z.act) e (seat_of_home h k a xs ys y s.1)
  where
    by_test : (b : Bool) → cond b (Some z) (keyed.find home_act same_act a ys) ≡ Some y → (keyed.find home_act same_act a ys ≡ Some y → (x : ActivityEntry) × SeatOf h k x y) → (x : ActivityEntry) × SeatOf h k x y
    by_test true e ih = let q : z ≡ y = cc in (x, subst (SeatOf h k x) q s.0)
    by_test false e ih = ih e

pub home_key : (a : ℕ) (xs : List Home) (y : Home) → keyed.find home_act same_act a xs ≡ Some y → y.act ≡ a
home_key a [] y e = absurd (cc)
home_key a (x ∷ xs) y e = key_by a x y (keyed.find home_act same_act a xs) (a == x.act) refl (home_key a xs y) e
  where
    key_by : (a : ℕ) (z y : Home) (o : Option Home) (b : Bool) → (a == z.act) ≡ b → (o ≡ Some y → y.act ≡ a) → cond b (Some z) o ≡ Some y → y.act ≡ a
    key_by a z y o true d ih e = let k : z ≡ y = cc in ap (λ w. w.act) (sym k) ∙ (let n : z.act ≡ a = grind (arith, nat_tests, d) in n)
    key_by a z y o false d ih e = ih e

-- an activity of the setup, with its home and its seat
pub record KnownActivity (h : Site) (m : Machine) (a : ℕ) : Type 0 where
  pub home : Home
  pub found : home_of a h ≡ Some home
  pub key : home.act ≡ a
  pub seat : ActivityEntry
  pub its : SeatOf h m.kernel seat home

pub known_activity : (h : Site) (m : Machine) (a : ℕ) → MachineStructure h m → is_home h a ≡ true → KnownActivity h m a
known_activity h m a sound k =
    let y = some_if_some (home_of a h) k in
    let s = seat_of_home h m.kernel a m.kernel.seats h.homes y.0 (are_seats h m.kernel sound.housed.seats sound.setup.homes) y.1 in
    record { home = y.0; found = y.1; key = home_key a h.homes y.0 y.1; seat = s.0; its = s.1 }

-- ---- into a hold list

module _ (h : Site) (m : Machine) (sound : MachineStructure h m) (p : Packet) (a : ℕ) (aim : target p ≡ Some a) (named : is_named h p ≡ true) (absent : flight (name_of p) (all_packets m) ≡ None)
    (r : KnownActivity h m a) where
  x : ActivityEntry
  x = r.seat

  y : Home
  y = r.home

  seat_act_is : r.seat.act ≡ a
  seat_act_is = r.its.act ∙ r.key

  there : keyed.find entry_act same_act r.seat.act m.kernel.seats ≡ Some r.seat
  there = ap (λ n. keyed.find entry_act same_act n m.kernel.seats) r.its.act ∙ r.its.seat

  abbrev longer : ActivityEntry
  longer = record r.seat { hold = r.seat.hold ++ p ∷ [] }

  abbrev pub holding : Machine
  holding = record m { kernel = with_held p r.seat m.kernel }

  aways : flat_map entry_contexts holding.kernel.seats ≡ flat_map entry_contexts m.kernel.seats
  aways = let q = around_replaced entry_act same_act entry_contexts r.seat longer m.kernel.seats there in q.there ∙ sym q.here

  joins_hold : Inserts p (all_packets m) (all_packets holding)
  joins_hold =
      let q = around_replaced entry_act same_act held_by r.seat longer m.kernel.seats there in
      let L = flat_links packets_in m.links in
      inserts_right L p (flat_map held_by m.kernel.seats) (flat_map held_by holding.kernel.seats)
      (record {
        front = q.front ++ r.seat.hold;
        back = q.back;
        without = q.here ∙ sym (append_assoc q.front r.seat.hold q.back);
        whole = q.there ∙ ap (λ l. q.front ++ l) (append_assoc r.seat.hold (p ∷ []) q.back) ∙ sym (append_assoc q.front r.seat.hold (p ∷ q.back));
      })

  contexts_same : all_contexts holding ≡ all_contexts m
  contexts_same = ap (λ l. flat_map tile_contexts m.tiles ++ (l ++ flat_links contexts_in m.links)) aways

  pub holding_state : ideal_of holding ≡ record (ideal_of m) { flights = new_flight p (ideal_of m).flights }
  holding_state =
      let packets = by_name-inserts p (all_packets m) (all_packets holding) joins_hold absent in
      λ k. record {
        memory = m.memory;
        contexts = sorted_by_act (contexts_same k);
        flights = packets k;
        kernel_next = m.kernel.next;
        grants = closed_from 1 (all_closed m) m.kernel.grants;
      }

  module _ (free : is_placed_entry r.seat.seating ≡ false) where
    seat_ok : (w : EntryResidency) → is_placed_entry w ≡ false → EntryOk h m.tiles r.seat w → EntryOk h m.tiles longer w
    seat_ok Is_placed k o = absurd (cc)
    seat_ok Is_leaving k o = o
    seat_ok (Is_resting z) k o = o
    seat_ok (Is_coming z) k o = o

    old : EntryOk h m.tiles r.seat r.seat.seating × Each (HoldOk h r.seat.act) r.seat.hold
    old = sound.seated.seats r.seat.act r.seat there

    seats' : (b : ℕ) (z : ActivityEntry) → entry_of b holding.kernel ≡ Some z → EntryOk h m.tiles z z.seating × Each (HoldOk h z.act) z.hold
    seats' b z e =
        seat_then m.kernel.seats r.seat longer there refl (λ c o. o ≡ Some z → EntryOk h m.tiles z z.seating × Each (HoldOk h z.act) z.hold) b
        (λ d k. sound.seated.seats b z k)
        (λ d k. let s : longer ≡ z = cc in
        subst (λ z. EntryOk h m.tiles z z.seating × Each (HoldOk h z.act) z.hold) s
        (seat_ok r.seat.seating free old.0, each_append (HoldOk h r.seat.act) r.seat.hold (p ∷ []) old.1 ((named, aim ∙ ap (λ n. Some n) (sym seat_act_is)), tt))) e

    counts : (q : ActivityEntry → Bool) → q longer ≡ q r.seat → how_many q holding.kernel.seats ≡ how_many q m.kernel.seats
    counts q e = let c = seat_counts m.kernel.seats r.seat longer there refl q in let d : one (q longer) ≡ one (q r.seat) = ap one e in omega arith

    leaving_still : (b : ℕ) → is_leaving_of (entry_of b holding.kernel) ≡ is_leaving_of (entry_of b m.kernel)
    leaving_still b =
        seat_then m.kernel.seats r.seat longer there refl (λ c o. is_leaving_of o ≡ is_leaving_of (keyed.find entry_act same_act c m.kernel.seats)) b (λ d. refl)
        (λ d. sym (ap is_leaving_of (ap (λ n. keyed.find entry_act same_act n m.kernel.seats) d ∙ there)))

    here_still : (b : ℕ) → is_here_entry (entry_of b m.kernel) ≡ true → is_here_entry (entry_of b holding.kernel) ≡ true
    here_still b =
        seat_then m.kernel.seats r.seat longer there refl (λ c o. is_here_entry (keyed.find entry_act same_act c m.kernel.seats) ≡ true → is_here_entry o ≡ true) b (λ d k. k)
        (λ d k. sym (ap is_here_entry (ap (λ n. keyed.find entry_act same_act n m.kernel.seats) d ∙ there)) ∙ k)

    pub holding_sound : MachineStructure h holding
    holding_sound =
        record {
          setup = sound.setup;
          tiles = sound.tiles;
          links = sound.links;
          acts = subst DistinctActs (sym contexts_same) sound.acts;
          known = λ b e. subst (λ l. IsPresent (context_of b l)) (sym contexts_same) (sound.known b e);
          named = subst (Each (λ c. is_named_context h c ≡ true)) (sym contexts_same) sound.named;
          names = names_add p (all_packets m) (all_packets holding) joins_hold absent sound.names;
          housed = record { seats = order_replaced longer m.kernel.seats ∙ sound.housed.seats; tiles = sound.housed.tiles; stays = sound.housed.stays; current = sound.housed.current };
          parcels = λ b c hb hc. each_map (ParcelOk h m.kernel m.tiles b c) (ParcelOk h holding.kernel m.tiles b c) (parcel_kernel h m.kernel holding.kernel m.tiles here_still b c) (link_at b c m) (sound.parcels b c hb hc);
          seated = record {
            seats = seats';
            filled = λ t. (λ i. counts (is_placed_at h t) refl i + counts (is_coming_at h t) refl i) ∙ sound.seated.filled t;
            leaving = λ t. let c = counts (is_leaving_at h t) refl in let d = counts (is_coming_at h t) refl in let s = sound.seated.leaving t in omega arith;
            departing = λ b. sound.seated.departing b ∙ sym (ap one (leaving_still b));
            walks = λ t low high. subst (λ o. CurrentAlongLink (current_act (tile_at t m)) (link_at 0 t m) o) (sym (placed_still h t m.kernel.seats r.seat longer there refl refl)) (sound.seated.walks t low high);
            orderly = sound.seated.orderly;
          };
          closed = sound.closed;
          shut = sound.shut;
          holders = sound.holders;
        }

  -- ---- the places

  actor_there : places_state.actor a (placement_of h m) ≡ Some (actor_in m r.home)
  actor_there = find_actor m a h.homes r.home r.found

  held_actor : actor_in holding r.home ≡ record (actor_in m r.home) { hold = (actor_in m r.home).hold ++ name_of p ∷ [] }
  held_actor =
      let st = resident_of r.home.act (tile_at r.home.tile m) in
      let now : entry_of r.home.act holding.kernel ≡ Some longer = ap (λ n. entry_of n holding.kernel) (sym r.its.act) ∙ seat_now m.kernel.seats r.seat longer there refl in
      ap (λ o. actor_by r.home o st) now
      ∙ (λ k. record (actor_by r.home (Some r.seat) st) { hold = map-append name_of r.seat.hold (p ∷ []) k })
      ∙ ap (λ o. record (actor_by r.home o st) { hold = (actor_by r.home o st).hold ++ name_of p ∷ [] }) (sym r.its.seat)

  other_actor : (w : Home) → (r.home.act == w.act) ≡ false → actor_in holding w ≡ actor_in m w
  other_actor w d =
      ap (λ o. actor_by w o (resident_of w.act (tile_at w.tile m)))
      (seat_then m.kernel.seats r.seat longer there refl (λ c o. c ≡ w.act → o ≡ keyed.find entry_act same_act c m.kernel.seats) w.act (λ k e. refl)
      (λ k e. absurd (let z = r.its.act in let q : (r.home.act == w.act) ≡ true = grind (arith, nat_tests, k, z) in cc)) refl)

  pub holding_places : placement_of h holding ≡ places_routing.with_held (name_of p) (actor_in m r.home) (placement_of h m)
  holding_places =
      let actors = sym (actors_then h m holding r.home (record (actor_in m r.home) { hold = (actor_in m r.home).hold ++ name_of p ∷ [] }) held_actor sound.setup.homes (ap (λ n. home_of n h) r.key ∙ r.found) other_actor) in
      λ k. record (placement_of h m) { actors = actors k }

  -- ---- on the home link

  module _ (placed : is_placed_entry r.seat.seating ≡ true) where
    u_home : tile_of h r.seat.act ≡ tile_of h a
    u_home = ap (tile_of h) seat_act_is

    known : is_home h a ≡ true
    known = ap is_some r.found

    lives : (2 ≤ tile_of h r.seat.act) × (tile_of h r.seat.act < 16)
    lives = subst (λ n. (2 ≤ n) × (n < 16)) (sym u_home) (home_tile h a sound.setup known)

    abbrev pub sending : Machine
    sending = with_parcel 0 (tile_of h r.seat.act, Data p) m

    zero_low : 0 < 16
    zero_low = omega arith

    there_placed : placed_on h (tile_of h r.seat.act) m.kernel ≡ Some a
    there_placed =
        let t = tile_of h r.seat.act in
        let is : is_placed_at h t r.seat ≡ true = ap (λ b. (t == t) && b) placed ∙ (let z : ((t == t) && true) ≡ true = grind (arith, nat_tests) in z) in
        let le : how_many (is_placed_at h t) m.kernel.seats ≤ 1 = at_most (has_home t h.homes) (how_many (is_placed_at h t) m.kernel.seats) (how_many (is_coming_at h t) m.kernel.seats) (sound.seated.filled t) in
        ap act_of_entry (placed_one h t r.seat.act m.kernel.seats r.seat le there is) ∙ ap (λ n. Some n) seat_act_is
      where
        at_most : (b : Bool) (i j : ℕ) → i + j ≡ one b → i ≤ 1
        at_most true i j e = omega arith
        at_most false i j e = omega arith

    walk : (w : ℕ) → 2 ≤ w → w < 16 → CurrentAlongLink (current_act (tile_at w m)) (link_at 0 w sending) (placed_on h w m.kernel)
    walk w low high =
        links_set m.links 0 (tile_of h r.seat.act) (link_at 0 (tile_of h r.seat.act) m ++ Data p ∷ []) zero_low lives.1 sound.links
        (λ b c qs. b ≡ 0 → CurrentAlongLink (current_act (tile_at c m)) qs (placed_on h c m.kernel)) 0 w high (λ e. sound.seated.walks w low high)
        (λ e d k. subst (λ c. CurrentAlongLink (current_act (tile_at c m)) (link_at 0 (tile_of h r.seat.act) m ++ Data p ∷ []) (placed_on h c m.kernel)) d
        (subst (λ o. CurrentAlongLink (current_act (tile_at (tile_of h r.seat.act) m)) (link_at 0 (tile_of h r.seat.act) m ++ Data p ∷ []) o) (sym there_placed)
        (walks-data (current_act (tile_at (tile_of h r.seat.act) m)) (link_at 0 (tile_of h r.seat.act) m) a p
        (subst (λ o. CurrentAlongLink (current_act (tile_at (tile_of h r.seat.act) m)) (link_at 0 (tile_of h r.seat.act) m) o) there_placed (sound.seated.walks (tile_of h r.seat.act) lives.0 lives.1)) aim))) refl

    pub routed_sound : MachineStructure h sending
    routed_sound = sending_sound h m 0 (tile_of h r.seat.act) zero_low lives.1 sound p absent (named, subst (HasDestination h (tile_of h r.seat.act)) (sym aim) (inr u_home)) walk

    pub routed_state : ideal_of sending ≡ record (ideal_of m) { flights = new_flight p (ideal_of m).flights }
    routed_state = sending_state h m 0 (tile_of h r.seat.act) zero_low lives.1 sound p absent

    pub routed_places : placement_of h sending ≡ places_state.with_token 0 r.home.tile (places_state.Data (name_of p)) (placement_of h m)
    routed_places =
        longer_places h m 0 (tile_of h r.seat.act) zero_low lives.1 (Data p) sound.links
        ∙ ap (λ n. places_state.with_token 0 n (places_state.Data (name_of p)) (placement_of h m)) (seat_tile h m r.seat r.home r.its)

  -- ---- either

  -- what is routed, on this machine, is what the places route
  pub record Routes (n : Machine) (held : Bool) : Type 0 where
    pub sound' : MachineStructure h n
    pub state : ideal_of n ≡ record (ideal_of m) { flights = new_flight p (ideal_of m).flights }
    pub placed' : placement_of h n ≡ (places_routing.route (name_of p) (places_state.actor a (placement_of h m)) (placement_of h m)).places
    pub told : held ≡ (places_routing.route (name_of p) (places_state.actor a (placement_of h m)) (placement_of h m)).held

  abbrev pub routed_by : Routed → Machine
  routed_by d = with_parcels 0 d.out (record m { kernel = d.kernel })

  place_test : places_state.is_placed (actor_in m r.home).place ≡ is_placed_entry r.seat.seating
  place_test = ap places_state.is_placed (actor_place h m r.seat r.home r.its) ∙ placed_same r.seat.seating

  abbrev id : FlightId
  id = name_of p

  routes_as : (b : Bool) → is_placed_entry r.seat.seating ≡ b
      → places_routing.route (name_of p) (places_state.actor a (placement_of h m)) (placement_of h m)
      ≡ (if b then record { held = false; places = places_state.with_token 0 r.home.tile (places_state.Data (name_of p)) (placement_of h m) } else record { held = true; places = places_routing.with_held (name_of p) (actor_in m r.home) (placement_of h m) })
  routes_as b e =
      ap (λ o. places_routing.route (name_of p) o (placement_of h m)) actor_there
      ∙ ap (λ b. if b then record { held = false; places = places_state.with_token 0 r.home.tile (places_state.Data (name_of p)) (placement_of h m) } else record { held = true; places = places_routing.with_held (name_of p) (actor_in m r.home) (placement_of h m) }) (place_test ∙ e)

  abbrev rule : Bool → Routed
  rule true = record { held = false; kernel = m.kernel; out = (tile_of h r.seat.act, Data p) ∷ [] }
  rule false = record { held = true; kernel = with_held p r.seat m.kernel; out = [] }

  rule_is : (b : Bool) → (if b then record { held = false; kernel = m.kernel; out = (tile_of h r.seat.act, Data p) ∷ [] } else record { held = true; kernel = with_held p r.seat m.kernel; out = [] }) ≡ rule b
  rule_is true = refl
  rule_is false = refl

  route_by : (b : Bool) → is_placed_entry r.seat.seating ≡ b → Routes (routed_by (rule b)) (rule b).held
  route_by true e =
      record { sound' = routed_sound e; state = routed_state e; placed' = routed_places e ∙ sym (ap (λ z. z.places) (routes_as true e)); told = sym (ap (λ z. z.held) (routes_as true e)) }
  route_by false e =
      record { sound' = holding_sound e; state = holding_state; placed' = holding_places ∙ sym (ap (λ z. z.places) (routes_as false e)); told = sym (ap (λ z. z.held) (routes_as false e)) }

  -- the kernel's rule is the places' rule
  pub route_is : (d : Routed) × (route h p m.kernel ≡ Some d) × Routes (routed_by d) d.held
  route_is =
      let b = is_placed_entry r.seat.seating in (
        rule b,
        ap (λ o. route_to h p m.kernel (entry_for o m.kernel)) aim ∙ ap (route_to h p m.kernel) (ap (λ n. entry_of n m.kernel) (sym r.key) ∙ r.its.seat) ∙ ap (λ z. Some z) (rule_is b),
        route_by b refl,
      )
