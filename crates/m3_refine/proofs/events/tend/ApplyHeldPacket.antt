-- The front of a hold list is applied to the context in the kernel: what it does to the machine, before anything is emitted.
use Rattle.std.proofs.Common.{◌≡◌, ℕ, ◌+◌, Bool, true, false, List, [], ◌∷◌, ◌++◌, Some, None, refl, sym, subst, ◌∙◌, ap, arith, append_assoc, map}
use Rattle.std.specs.Prelude.{◌==◌, ◌&&◌, ◌||◌}
use Rattle.std.proofs.lemmas.Bool.Decides.{nat_tests}
use Rattle.m3_base.specs.declared.packet.Packet.{Packet}
use Rattle.m3_base.specs.Lists.Keyed as keyed
use Rattle.m3_base.specs.Lists.Counting.{one, how_many}
use Rattle.m3_base.specs.Ideal.Flights.{name_of, flight, new_flight, sorted_by_name}
use Rattle.m3_base.specs.Ideal.Context.{Context}
use Rattle.m3_base.specs.Ideal.State.{context_of, put_context, same_act}
use Rattle.m3_base.specs.Placement.State as places_state
use Rattle.m3_base.specs.Placement.State.{Placement}
use Rattle.m3_base.specs.Lists.EachElement.{Each}
use Rattle.m3_merge.proofs.MergedIsRun.{each_map}
use Rattle.m3_merge.proofs.StampBounds.{each_back}
use Rattle.m3_model.specs.Config.Site.{Home, Site, tile_of}
use Rattle.m3_model.specs.Tile.State.{Tile}
use Rattle.m3_model.specs.Kernel.State.{SavedActivity, EntryResidency, Is_resting, Is_coming, ActivityEntry, Kernel}
use Rattle.m3_model.specs.Config.KnownActivities.{is_named_context}
use Rattle.m3_model.specs.Tile.Step.{resident_of}
use Rattle.m3_model.specs.Kernel.Step.{entry_act, entry_of, after_packet, is_placed_entry, is_leaving_entry, is_coming_entry, is_leaving_at}
use Rattle.m3_model.specs.Machine.{Machine, tile_at, link_at}
use Rattle.m3_model.specs.Abstraction.{flat_map, flat_links, tile_contexts, entry_contexts, residency_contexts, held_by, contexts_in, packets_in, all_contexts, all_packets, all_closed, closed_from, ideal_of, actor_in, actor_by, current_act, residency_of, placement_of}
use Rattle.m3_model.specs.Invariant.Scheduling.{is_placed_at, is_coming_at, is_leaving_of, EntryOk, HoldOk, EntriesOk}
use Rattle.m3_model.specs.Invariant.Parcels.{is_here_entry, EndedFlagIs, ParcelOk}
use Rattle.m3_model.specs.Invariant.Housing.{resident_at}
use Rattle.m3_model.specs.Invariant.LinkWalk.{CurrentAlongLink}
use Rattle.m3_model.specs.Invariant.Structure.{MachineStructure}
use Rattle.m3_refine.proofs.lists.Insertion.{Inserts, inserts_right}
use Rattle.m3_refine.proofs.lists.Replacement.{around_replaced}
use Rattle.m3_refine.proofs.abstraction.MoveWithinMachine.{by_name-inserts, IsInFlight}
use Rattle.m3_refine.proofs.abstraction.MoveContext.{name_inserts, apart_inserts}
use Rattle.m3_refine.proofs.abstraction.FindActor.{context_at}
use Rattle.m3_refine.proofs.events.take.BounceStep.{packet_at, name-by_name}
use Rattle.m3_refine.proofs.abstraction.PopParcel.{names_drop}
use Rattle.m3_refine.proofs.abstraction.ChangeContext.{Swaps, swaps_state, swaps_apart, swaps_known, swaps_each}
use Rattle.m3_refine.proofs.abstraction.EntriesMatchActors.{SeatOf, order_replaced, seat_tile, IsEntryOf, seat_entry}
use Rattle.m3_refine.proofs.abstraction.ReplaceEntry.{seat_then, seat_now, seat_counts, placed_still, parcel_kernel, actors_then, StaysHere}
use Rattle.m3_refine.proofs.events.take.KernelTakesSaved.{ready_then, ready_places}

abbrev pub sits_as : Bool → SavedActivity → EntryResidency
sits_as true y = Is_resting y
sits_as false y = Is_coming y

pub away_of : (b : Bool) (y : SavedActivity) → residency_contexts (sits_as b y) ≡ y.context ∷ []
away_of true y = refl
away_of false y = refl

not_placed : (b : Bool) (y : SavedActivity) → is_placed_entry (sits_as b y) ≡ false
not_placed true y = refl
not_placed false y = refl

not_leaving : (b : Bool) (y : SavedActivity) → is_leaving_entry (sits_as b y) ≡ false
not_leaving true y = refl
not_leaving false y = refl

coming_as : (b : Bool) (y z : SavedActivity) → is_coming_entry (sits_as b y) ≡ is_coming_entry (sits_as b z)
coming_as true y z = refl
coming_as false y z = refl

seat_away : (h : Site) (ts : List Tile) (x : ActivityEntry) (b : Bool) (y z : SavedActivity) → z.context.act ≡ y.context.act → z.ended ≡ y.ended → EntryOk h ts x (sits_as b y) → EntryOk h ts x (sits_as b z)
seat_away h ts x true y z e k o = (e ∙ o.0, subst (λ d. EndedFlagIs d (resident_at h ts x.act)) (sym k) o.1)
seat_away h ts x false y z e k o = (e ∙ o.0, subst (λ d. EndedFlagIs d (resident_at h ts x.act)) (sym k) o.1)

pub act_away : (h : Site) (ts : List Tile) (x : ActivityEntry) (b : Bool) (y : SavedActivity) → EntryOk h ts x (sits_as b y) → y.context.act ≡ x.act
act_away h ts x true y o = o.0
act_away h ts x false y o = o.0

-- the context of an activity that is away
module _ (h : Site) (m : Machine) (sound : MachineStructure h m) (x : ActivityEntry) (y : Home) (s : SeatOf h m.kernel x y) (b : Bool) (w : SavedActivity) (sits : x.seating ≡ sits_as b w) where
  away_inserts : (base : List Context) × Inserts w.context base (all_contexts m)
  away_inserts =
      let there = ap (λ n. keyed.find entry_act same_act n m.kernel.seats) s.act ∙ s.seat in
      let r = around_replaced entry_act same_act entry_contexts x x m.kernel.seats there in
      let L = flat_links contexts_in m.links in
      let T = flat_map tile_contexts m.tiles in (
        (T ++ r.front) ++ (r.back ++ L),
        record {
          front = T ++ r.front;
          back = r.back ++ L;
          without = refl;
          whole = ap (λ l. T ++ (l ++ L)) (r.here ∙ ap (λ z. r.front ++ (residency_contexts z ++ r.back)) sits ∙ ap (λ z. r.front ++ (z ++ r.back)) (away_of b w)) ∙ ap (λ l. T ++ l) (append_assoc r.front (w.context ∷ r.back) L) ∙ sym (append_assoc T r.front (w.context ∷ (r.back ++ L)));
        },
      )

  pub away_found : context_of w.context.act (ideal_of m).contexts ≡ Some w.context
  away_found = let i = away_inserts in context_at w.context i.0 (all_contexts m) i.1 (apart_inserts w.context i.0 (all_contexts m) i.1 sound.acts)

  pub away_each : (P : Context → Type 0) → Each P (all_contexts m) → P w.context
  away_each P k = let i = away_inserts in (each_back P i.1.front (w.context ∷ i.1.back) (subst (Each P) i.1.whole k)).0

module _ (h : Site) (m : Machine) (sound : MachineStructure h m) (x : ActivityEntry) (y : Home) (s : SeatOf h m.kernel x y) (b : Bool) (w : SavedActivity) (sits : x.seating ≡ sits_as b w) (p : Packet) (ps : List Packet) (front : x.hold ≡ p ∷ ps)
    (c : Context) (same : c.act ≡ w.context.act) (named : is_named_context h c ≡ true) (ready : Bool) where
  abbrev met : SavedActivity
  met = after_packet p c w

  abbrev applied : ActivityEntry
  applied = record x { seating = sits_as b (after_packet p c w); hold = ps }

  abbrev pub kernel_applied : Kernel
  kernel_applied = record m.kernel { seats = keyed.with_replaced entry_act same_act (record x { seating = sits_as b (after_packet p c w); hold = ps }) m.kernel.seats; ready = ready_then ready (tile_of h x.act) x.act m.kernel.ready }

  abbrev pub applying : Machine
  applying = record m { kernel = kernel_applied }

  there : IsEntryOf m.kernel x
  there = seat_entry h m.kernel x y s

  old : EntryOk h m.tiles x x.seating × Each (HoldOk h x.act) x.hold
  old = sound.seated.seats x.act x there

  old_sits : EntryOk h m.tiles x (sits_as b w)
  old_sits = subst (EntryOk h m.tiles x) sits old.0

  swapped : Swaps w.context c (all_contexts m) (all_contexts applying)
  swapped =
      let r = around_replaced entry_act same_act entry_contexts x applied m.kernel.seats there in
      let L = flat_links contexts_in m.links in
      let T = flat_map tile_contexts m.tiles in
      record {
        front = T ++ r.front;
        back = r.back ++ L;
        old = ap (λ l. T ++ (l ++ L)) (r.here ∙ ap (λ z. r.front ++ (residency_contexts z ++ r.back)) sits ∙ ap (λ z. r.front ++ (z ++ r.back)) (away_of b w)) ∙ ap (λ l. T ++ l) (append_assoc r.front (w.context ∷ r.back) L) ∙ sym (append_assoc T r.front (w.context ∷ (r.back ++ L)));
        new = ap (λ l. T ++ (l ++ L)) (r.there ∙ ap (λ z. r.front ++ (z ++ r.back)) (away_of b met)) ∙ ap (λ l. T ++ l) (append_assoc r.front (c ∷ r.back) L) ∙ sym (append_assoc T r.front (c ∷ (r.back ++ L)));
      }

  pub applied_packet : Inserts p (all_packets applying) (all_packets m)
  applied_packet =
      let q = around_replaced entry_act same_act held_by x applied m.kernel.seats there in
      inserts_right (flat_links packets_in m.links) p (flat_map held_by kernel_applied.seats) (flat_map held_by m.kernel.seats)
      (record { front = q.front; back = ps ++ q.back; without = q.there; whole = q.here ∙ ap (λ l. q.front ++ (l ++ q.back)) front })

  pub applied_absent : flight (name_of p) (all_packets applying) ≡ None
  applied_absent = name_inserts p (all_packets applying) (all_packets m) applied_packet sound.names

  pub applied_apart : flight (name_of p) (ideal_of applying).flights ≡ None
  applied_apart = name-by_name (name_of p) (all_packets applying) applied_absent

  pub applied_flights : (ideal_of m).flights ≡ new_flight p (ideal_of applying).flights
  applied_flights = by_name-inserts p (all_packets applying) (all_packets m) applied_packet applied_absent

  pub applied_flies : IsInFlight m p
  applied_flies = packet_at p (all_packets applying) (all_packets m) applied_packet applied_absent

  pub applied_state : ideal_of applying ≡ record (ideal_of m) { contexts = put_context c (ideal_of m).contexts; flights = (ideal_of applying).flights }
  applied_state =
      let contexts = swaps_state w.context c (all_contexts m) (all_contexts applying) swapped same sound.acts in
      λ k. record {
        memory = m.memory;
        contexts = contexts k;
        flights = sorted_by_name (all_packets applying);
        kernel_next = m.kernel.next;
        grants = closed_from 1 (all_closed m) m.kernel.grants;
      }

  -- ---- it is as sound

  tile_test : (t : ℕ) (f : EntryResidency → Bool) → f x.seating ≡ f (sits_as b met) → one ((tile_of h x.act == t) && f (sits_as b met)) ≡ one ((tile_of h x.act == t) && f x.seating)
  tile_test t f e = ap (λ d. one ((tile_of h x.act == t) && d)) (sym e)

  placed_same' : is_placed_entry x.seating ≡ is_placed_entry (sits_as b met)
  placed_same' = ap is_placed_entry sits ∙ not_placed b w ∙ sym (not_placed b met)

  leaving_same' : is_leaving_entry x.seating ≡ is_leaving_entry (sits_as b met)
  leaving_same' = ap is_leaving_entry sits ∙ not_leaving b w ∙ sym (not_leaving b met)

  coming_same' : is_coming_entry x.seating ≡ is_coming_entry (sits_as b met)
  coming_same' = ap is_coming_entry sits ∙ coming_as b w met

  counts : (q : ActivityEntry → Bool) → one (q applied) ≡ one (q x) → how_many q kernel_applied.seats ≡ how_many q m.kernel.seats
  counts q e = let k = seat_counts m.kernel.seats x applied there refl q in omega arith

  seats' : EntriesOk h m.tiles kernel_applied
  seats' a z e =
      seat_then m.kernel.seats x applied there refl (λ n o. o ≡ Some z → EntryOk h m.tiles z z.seating × Each (HoldOk h z.act) z.hold) a
      (λ d k. sound.seated.seats a z k)
      (λ d k. let q : applied ≡ z = cc in subst (λ z. EntryOk h m.tiles z z.seating × Each (HoldOk h z.act) z.hold) q
      (by_sits b (seat_away h m.tiles x b w met same refl old_sits), (subst (Each (HoldOk h x.act)) front old.1).1)) e
    where
      by_sits : (d : Bool) → EntryOk h m.tiles x (sits_as d met) → EntryOk h m.tiles (record x { seating = sits_as b met; hold = ps }) (sits_as d met)
      by_sits true o = o
      by_sits false o = o

  leaving_still : (a : ℕ) → is_leaving_of (entry_of a kernel_applied) ≡ is_leaving_of (entry_of a m.kernel)
  leaving_still a =
      seat_then m.kernel.seats x applied there refl (λ n o. is_leaving_of o ≡ is_leaving_of (keyed.find entry_act same_act n m.kernel.seats)) a (λ d. refl)
      (λ d. sym leaving_same' ∙ sym (ap is_leaving_of (ap (λ n. keyed.find entry_act same_act n m.kernel.seats) d ∙ there)))

  here_still : StaysHere m.kernel kernel_applied
  here_still a =
      seat_then m.kernel.seats x applied there refl (λ n o. is_here_entry (keyed.find entry_act same_act n m.kernel.seats) ≡ true → is_here_entry o ≡ true) a (λ d k. k)
      (λ d k. (λ i. sym placed_same' i || sym leaving_same' i) ∙ sym (ap is_here_entry (ap (λ n. keyed.find entry_act same_act n m.kernel.seats) d ∙ there)) ∙ k)

  pub applied_sound : MachineStructure h applying
  applied_sound =
      record {
        setup = sound.setup;
        tiles = sound.tiles;
        links = sound.links;
        acts = swaps_apart w.context c (all_contexts m) (all_contexts applying) swapped same sound.acts;
        known = λ a e. swaps_known w.context c (all_contexts m) (all_contexts applying) swapped same sound.acts a (sound.known a e);
        named = swaps_each w.context c (all_contexts m) (all_contexts applying) swapped same sound.acts (λ c. is_named_context h c ≡ true) sound.named named;
        names = names_drop p (all_packets applying) (all_packets m) applied_packet sound.names;
        housed = record { seats = order_replaced applied m.kernel.seats ∙ sound.housed.seats; tiles = sound.housed.tiles; stays = sound.housed.stays; current = sound.housed.current };
        parcels = λ a d ha hd. each_map (ParcelOk h m.kernel m.tiles a d) (ParcelOk h kernel_applied m.tiles a d) (parcel_kernel h m.kernel kernel_applied m.tiles here_still a d) (link_at a d m) (sound.parcels a d ha hd);
        seated = record {
          seats = seats';
          filled = λ t. (λ i. counts (is_placed_at h t) (tile_test t is_placed_entry placed_same') i + counts (is_coming_at h t) (tile_test t is_coming_entry coming_same') i) ∙ sound.seated.filled t;
          leaving = λ t. let i = counts (is_leaving_at h t) (tile_test t is_leaving_entry leaving_same') in let j = counts (is_coming_at h t) (tile_test t is_coming_entry coming_same') in let k = sound.seated.leaving t in omega arith;
          departing = λ a. sound.seated.departing a ∙ sym (ap one (leaving_still a));
          walks = λ t low high. subst (λ o. CurrentAlongLink (current_act (tile_at t m)) (link_at 0 t m) o)
              (sym (placed_still h t m.kernel.seats x applied there refl (ap (λ d. (tile_of h x.act == t) && d) (sym placed_same')))) (sound.seated.walks t low high);
          orderly = sound.seated.orderly;
        };
        closed = sound.closed;
        shut = sound.shut;
        holders = sound.holders;
      }

  -- ---- the places

  applied_actor : actor_in applying y ≡ record (actor_in m y) { hold = map name_of ps }
  applied_actor =
      let st = resident_of y.act (tile_at y.tile m) in
      let now : entry_of y.act kernel_applied ≡ Some applied = ap (λ n. entry_of n kernel_applied) (sym s.act) ∙ seat_now m.kernel.seats x applied there refl in
      ap (λ o. actor_by y o st) now
      ∙ (λ i. record (actor_by y (Some x) st) { hold = map name_of ps; place = place_same i })
      ∙ ap (λ o. record (actor_by y o st) { hold = map name_of ps }) (sym s.seat)
    where
      by_sits : (d : Bool) → residency_of (sits_as d met) ≡ residency_of (sits_as d w)
      by_sits true = refl
      by_sits false = refl

      place_same : residency_of (sits_as b met) ≡ residency_of x.seating
      place_same = by_sits b ∙ sym (ap residency_of sits)

  other_actor : (v : Home) → (y.act == v.act) ≡ false → actor_in applying v ≡ actor_in m v
  other_actor v d =
      ap (λ o. actor_by v o (resident_of v.act (tile_at v.tile m)))
      (seat_then m.kernel.seats x applied there refl (λ n o. n ≡ v.act → o ≡ keyed.find entry_act same_act n m.kernel.seats) v.act (λ k e. refl)
      (λ k e. absurd (let z = s.act in let q : (y.act == v.act) ≡ true = grind (arith, nat_tests, k, z) in cc)) refl)

  pub applied_places : placement_of h applying ≡ places_state.join_ready ready y.tile y.act (places_state.with_actor (record (actor_in m y) { hold = map name_of ps }) (placement_of h m))
  applied_places =
      let actors = sym (actors_then h m applying y (record (actor_in m y) { hold = map name_of ps }) applied_actor sound.setup.homes s.home other_actor) in
      let tile = seat_tile h m x y s in
      (λ i. record (placement_of h m) { actors = actors i; ready = ready_then ready (tile i) (s.act i) m.kernel.ready })
      ∙ sym (ready_places ready y.tile y.act (places_state.with_actor (record (actor_in m y) { hold = map name_of ps }) (placement_of h m)))
