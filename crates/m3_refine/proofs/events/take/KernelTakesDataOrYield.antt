-- The kernel takes data, or a Yield.
use Rattle.std.proofs.Common.{◌≡◌, ℕ, ◌+◌, ◌*◌, ◌<◌, ◌≤◌, Bool, true, false, cond, List, [], ◌∷◌, ◌++◌, Some, None, refl, sym, subst, ◌∙◌, ap, arith, set, length, map, Option}
use Rattle.std.specs.Prelude.{◌||◌}
use Rattle.std.proofs.lemmas.List.{map-set, get_or-map}
use Rattle.m3_base.specs.declared.packet.Packet.{Packet}
use Rattle.m3_base.specs.declared.event.Event.{Event}
use Rattle.m3_base.specs.declared.event.Said.{Said}
use Rattle.m3_base.specs.Lists.Counting.{one}
use Rattle.m3_base.specs.Ideal.Flights.{name_of, new_flight, sorted_by_name}
use Rattle.m3_base.specs.Ideal.State.{State, context_of, DistinctActs}
use Rattle.m3_base.specs.Placement.State as places_state
use Rattle.m3_base.specs.Placement.Take as places_take
use Rattle.m3_base.specs.Placement.Routing as places_routing
use Rattle.m3_base.specs.Placement.Landing as places_landing
use Rattle.m3_base.specs.Placement.Routing.{target, target_of}
use Rattle.m3_base.specs.Lists.EachElement.{Each}
use Rattle.m3_merge.proofs.MergedIsRun.{each_map}
use Rattle.m3_refine.proofs.abstraction.ReplaceEntry.{parcel_kernel}
use Rattle.m3_model.specs.Config.Site.{Site, tile_of}
use Rattle.m3_model.specs.Parcel.{Parcel, Data, Yield}
use Rattle.m3_model.specs.Kernel.State.{ActivityEntry}
use Rattle.m3_model.specs.LocalStep.{local_result, dropped_result}
use Rattle.m3_model.specs.Config.KnownActivities.{is_named, is_named_context}
use Rattle.m3_model.specs.Kernel.Step.{entry_of, is_placed_entry, is_leaving_entry, with_yielded, route, take_routed, routing_outcome, target_or, take_yield, kernel_take, Routed}
use Rattle.m3_model.specs.Machine.{Machine, Kernel_part, tile_at, link_at, with_link, with_part, machine_step, done_by, part_step, front, rest, of_kernel}
use Rattle.m3_model.specs.Abstraction.{flat_map, tile_contexts, entry_contexts, held_by, contexts_in, packets_in, closed_in, all_contexts, all_packets, all_closed, is_in, sorted_by_act, closed_from, ideal_of, link_token, current_act, placement_of}
use Rattle.m3_model.specs.Invariant.Distinct.{DistinctClosed}
use Rattle.m3_model.specs.Invariant.Housing.{IsPresent}
use Rattle.m3_model.specs.Invariant.Parcels.{is_here_entry, ParcelOk, HasDestination}
use Rattle.m3_model.specs.Invariant.LinkWalk.{CurrentAlongLink, placed_on}
use Rattle.m3_model.specs.Invariant.Scheduling.{is_save_of, saves_in_flight}
use Rattle.m3_model.specs.Invariant.Structure.{MachineStructure}
use Rattle.m3_model.specs.Refinement.{Refines}
use Rattle.m3_refine.proofs.lists.Insertion.{pop_none}
use Rattle.m3_refine.proofs.abstraction.FindActor.{tokens}
use Rattle.m3_refine.proofs.lists.Update.{is_link, links_set}
use Rattle.m3_refine.proofs.lists.PerLink.{pop_length, pop_front, pop_each, pop_leavings, pop_orderly}
use Rattle.m3_refine.proofs.abstraction.PopParcel.{popped_absent, popped_flights, popped_flies, popped_state, popped_places, popped_ok, popped_sound}
use Rattle.m3_refine.proofs.arrival.AnswerAndClosed.{named_target, home_is}
use Rattle.m3_refine.proofs.events.take.RouteRefines.{KnownActivity, known_activity, Routes, route_is, routed_by}
use Rattle.m3_base.specs.Ideal.FlightNames.{Distinct}

module _ (h : Site) (m : Machine) (from : ℕ) (hf : from < 16) (sound : MachineStructure h m) where
  pub zero_low : 0 < 16
  zero_low = omega arith

  -- a take at the kernel is the kernel's local step on its front
  pub kernel_step : (q : Parcel) (qs : List Parcel) → link_at from 0 m ≡ q ∷ qs
      → machine_step h m (Event.Take 0 from) None ≡ done_by 0 (with_link from 0 qs m) (Some (of_kernel (kernel_take h m.kernel q)))
  kernel_step q qs g = ap (λ l. done_by 0 (with_link from 0 (rest l) m) (part_step h (Kernel_part m.kernel) (Event.Take 0 from) None (front l))) g

  pub link_is : (q : Parcel) (qs : List Parcel) → link_at from 0 m ≡ q ∷ qs → places_state.link from 0 (placement_of h m) ≡ link_token q ∷ map link_token qs
  link_is q qs g = get_or-map (λ xs. map link_token xs) m.links (16 * from + 0) [] [] (is_link m.links from 0 qs hf zero_low sound.links) ∙ ap (λ l. map link_token l) g

  -- ---- data

  module _ (p : Packet) (qs : List Parcel) (g : link_at from 0 m ≡ Data p ∷ qs) where
    abbrev left : Machine
    left = with_link from 0 qs m

    left_sound : MachineStructure h left
    left_sound = popped_sound h m from 0 hf zero_low sound p qs g

    named : is_named h p ≡ true
    named = (popped_ok h m from 0 hf zero_low sound p qs g).0

    module _ (a : ℕ) (aim : target p ≡ Some a) where
      its : KnownActivity h left a
      its = known_activity h left a left_sound (named_target h p a named aim)

      r : (d : Routed) × (route h p m.kernel ≡ Some d) × Routes h left left_sound p a aim named (popped_absent h m from 0 hf zero_low sound p qs g) its (routed_by h left left_sound p a aim named (popped_absent h m from 0 hf zero_low sound p qs g) its d) d.held
      r = route_is h left left_sound p a aim named (popped_absent h m from 0 hf zero_low sound p qs g) its

      abbrev n : Machine
      n = routed_by h left left_sound p a aim named (popped_absent h m from 0 hf zero_low sound p qs g) its r.0

      step : machine_step h m (Event.Take 0 from) None ≡ Some (record { outcome = record { made = None; said = routing_outcome (name_of p) a r.0.held; restore = None }; machine = n })
      step =
          kernel_step (Data p) qs g
          ∙ ap (λ b. done_by 0 left (Some (of_kernel (cond b (take_routed p m.kernel (route h p m.kernel)) (dropped_result m.kernel))))) named
          ∙ ap (λ o. done_by 0 left (Some (of_kernel (take_routed p m.kernel o)))) r.1
          ∙ ap (λ o. done_by 0 left (Some (of_kernel (local_result (routing_outcome (name_of p) (target_or o) r.0.held) r.0.kernel r.0.out)))) aim

      state_same : ideal_of n ≡ ideal_of m
      state_same =
          r.2.state
          ∙ ap (λ (s : State). record s { flights = new_flight p (ideal_of left).flights }) (popped_state h m from 0 hf zero_low sound p qs g)
          ∙ (λ k. record (ideal_of m) { flights = sym (popped_flights h m from 0 hf zero_low sound p qs g) k })

      said_same : (b : Bool) → places_take.routing_outcome (name_of p) (Some a) b ≡ routing_outcome (name_of p) a b
      said_same true = refl
      said_same false = refl

      pub data_refines : Refines h m (Event.Take 0 from) None (machine_step h m (Event.Take 0 from) None)
      data_refines =
          let s = ideal_of m in
          let id = name_of p in
          let q = places_state.with_link from 0 (map link_token qs) (placement_of h m) in
          let flies = popped_flies h m from 0 hf zero_low sound p qs g in
          let back = popped_places h m from 0 hf zero_low sound p qs g in
          subst (Refines h m (Event.Take 0 from) None) (sym step) (
            ap (λ l. places_take.take s (placement_of h m) 0 from l) (link_is (Data p) qs g)
                ∙ ap (λ o. places_take.by_route id (target_of o) s (places_routing.route id (places_routing.actor_for (target_of o) q) q)) flies
                ∙ ap (λ o. places_take.by_route id o s (places_routing.route id (places_routing.actor_for o q) q)) aim
                ∙ ap (λ z. places_take.by_route id (Some a) s (places_routing.route id (places_state.actor a z) z)) (sym back)
                ∙ (λ k. places_landing.step_outcome (places_take.routing_outcome id (Some a) (sym r.2.told k)) s (sym r.2.placed' k))
                ∙ (λ k. places_landing.step_outcome (said_same r.0.held k) (sym state_same k) (placement_of h n)),
            r.2.sound',
          )

    data_by : (o : Option ℕ) → target p ≡ o → HasDestination h 0 o → Refines h m (Event.Take 0 from) None (machine_step h m (Event.Take 0 from) None)
    data_by None e k = absurd (omega arith)
    data_by (Some a) e k = data_refines a e

    -- routed or held
    pub take_data_refines : Refines h m (Event.Take 0 from) None (machine_step h m (Event.Take 0 from) None)
    take_data_refines = data_by (target p) refl (popped_ok h m from 0 hf zero_low sound p qs g).1

  -- ---- what is neither a context nor a packet, nor Closed

  module _ (q : Parcel) (qs : List Parcel) (g : link_at from 0 m ≡ q ∷ qs) (no_context : contexts_in q ≡ []) (no_packet : packets_in q ≡ []) (no_grant : closed_in q ≡ []) (plain : (a : ℕ) → is_save_of a q ≡ false) where
    abbrev after : Machine
    after = with_link from 0 qs m

    in_links : 16 * from + 0 < length m.links
    in_links = is_link m.links from 0 qs hf zero_low sound.links

    contexts_same : all_contexts after ≡ all_contexts m
    contexts_same = ap (λ l. flat_map tile_contexts m.tiles ++ (flat_map entry_contexts m.kernel.seats ++ l)) (pop_none contexts_in m.links (16 * from + 0) q qs in_links g no_context)

    packets_same : all_packets after ≡ all_packets m
    packets_same = ap (λ l. flat_map held_by m.kernel.seats ++ l) (pop_none packets_in m.links (16 * from + 0) q qs in_links g no_packet)

    closed_same : all_closed after ≡ all_closed m
    closed_same = pop_none closed_in m.links (16 * from + 0) q qs in_links g no_grant

    pub after_state : ideal_of after ≡ ideal_of m
    after_state =
        λ k. record {
          memory = m.memory;
          contexts = sorted_by_act (contexts_same k);
          flights = sorted_by_name (packets_same k);
          kernel_next = m.kernel.next;
          grants = closed_from 1 (closed_same k) m.kernel.grants;
        }

    pub after_places : placement_of h after ≡ places_state.with_link from 0 (map link_token qs) (placement_of h m)
    after_places =
        let links : tokens (set m.links (16 * from + 0) qs) ≡ set (tokens m.links) (16 * from + 0) (map link_token qs) = map-set (λ xs. map link_token xs) m.links (16 * from + 0) qs in
        λ k. record (placement_of h m) { links = links k }

    walks' : (w : ℕ) → 2 ≤ w → w < 16 → CurrentAlongLink (current_act (tile_at w m)) (link_at 0 w after) (placed_on h w m.kernel)
    walks' w low high =
        links_set m.links from 0 qs hf zero_low sound.links (λ x y l. 2 ≤ y → CurrentAlongLink (current_act (tile_at y m)) l (placed_on h y m.kernel)) 0 w high (λ z. sound.seated.walks w low high)
        (λ e d z. absurd (omega arith)) low

    pub after_sound : MachineStructure h after
    after_sound =
        record {
          setup = sound.setup;
          tiles = sound.tiles;
          links = pop_length m.links from 0 hf zero_low sound.links q qs g;
          acts = subst DistinctActs (sym contexts_same) sound.acts;
          known = λ a e. subst (λ l. IsPresent (context_of a l)) (sym contexts_same) (sound.known a e);
          named = subst (Each (λ c. is_named_context h c ≡ true)) (sym contexts_same) sound.named;
          names = subst Distinct (sym packets_same) sound.names;
          housed = record { seats = sound.housed.seats; tiles = sound.housed.tiles; stays = sound.housed.stays; current = sound.housed.current };
          parcels = pop_each m.links from 0 hf zero_low sound.links q qs g (ParcelOk h m.kernel m.tiles) sound.parcels;
          seated = record {
            seats = sound.seated.seats;
            filled = sound.seated.filled;
            leaving = sound.seated.leaving;
            departing = λ a. (let r = pop_leavings m.links from 0 hf zero_low sound.links q qs g a in let d : one (is_save_of a q) ≡ 0 = ap one (plain a) in let z : saves_in_flight a after.links ≡ saves_in_flight a m.links = omega arith in z) ∙ sound.seated.departing a;
            walks = walks';
            orderly = pop_orderly m.links from 0 hf zero_low sound.links q qs g sound.seated.orderly;
          };
          closed = subst DistinctClosed (sym closed_same) sound.closed;
          shut = λ x k. sound.shut x (subst (λ l. is_in l x ≡ true) closed_same k);
          holders = sound.holders;
        }

-- no part of soundness is about ready lists
pub ready_sound : (h : Site) (m : Machine) (ready : List (List ℕ)) (yielded : List Bool) → MachineStructure h m → MachineStructure h (record m { kernel = record m.kernel { ready = ready; yielded = yielded } })
ready_sound h m ready yielded s =
    record {
      setup = s.setup;
      tiles = s.tiles;
      links = s.links;
      acts = s.acts;
      known = s.known;
      named = s.named;
      names = s.names;
      housed = record { seats = s.housed.seats; tiles = s.housed.tiles; stays = s.housed.stays; current = s.housed.current };
      parcels = λ a b ha hb. each_map (ParcelOk h m.kernel m.tiles a b) (ParcelOk h (record m.kernel { ready = ready; yielded = yielded }) m.tiles a b) (parcel_kernel h m.kernel (record m.kernel { ready = ready; yielded = yielded }) m.tiles (λ c k. k) a b) (link_at a b m) (s.parcels a b ha hb);
      seated = record {
        seats = s.seated.seats;
        filled = s.seated.filled;
        leaving = s.seated.leaving;
        departing = s.seated.departing;
        walks = s.seated.walks;
        orderly = s.seated.orderly;
      };
      closed = s.closed;
      shut = s.shut;
      holders = s.holders;
    }

module _ (h : Site) (m : Machine) (from : ℕ) (hf : from < 16) (sound : MachineStructure h m) where
  here_some : (o : Option ActivityEntry) → is_here_entry o ≡ true → (x : ActivityEntry) × (o ≡ Some x) × ((is_placed_entry x.seating || is_leaving_entry x.seating) ≡ true)
  here_some None e = absurd (cc)
  here_some (Some x) e = (x, refl, e)

  -- a Yield of who is there
  pub take_yield_refines : (a : ℕ) (qs : List Parcel) → link_at from 0 m ≡ Yield a ∷ qs → Refines h m (Event.Take 0 from) None (machine_step h m (Event.Take 0 from) None)
  take_yield_refines a qs g =
      let left = with_link from 0 qs m in
      let ok = pop_front m.links from 0 hf (zero_low h m from hf sound) sound.links (Yield a) qs g (ParcelOk h m.kernel m.tiles) sound.parcels in
      let x = here_some (entry_of a m.kernel) ok.2 in
      let k = with_yielded (tile_of h a) true m.kernel in
      let n = with_part 0 (Kernel_part k) left in
      let s = after_sound h m from hf sound (Yield a) qs g refl refl refl (λ b. refl) in
      let p = after_places h m from hf sound (Yield a) qs g refl refl refl (λ b. refl) in
      let st = after_state h m from hf sound (Yield a) qs g refl refl refl (λ b. refl) in
      let step : machine_step h m (Event.Take 0 from) None ≡ Some (record { outcome = record { made = None; said = Said.Yielded a; restore = None }; machine = n }) =
      kernel_step h m from hf sound (Yield a) qs g
      ∙ ap (λ o. done_by 0 left (Some (of_kernel (take_yield h m.kernel a o)))) x.1
      ∙ ap (λ b. done_by 0 left (Some (of_kernel (cond b (local_result (Said.Yielded a) k []) (dropped_result m.kernel))))) x.2 in
      subst (Refines h m (Event.Take 0 from) None) (sym step) (
        ap (λ l. places_take.take (ideal_of m) (placement_of h m) 0 from l) (link_is h m from hf sound (Yield a) qs g)
            ∙ ap (λ q. places_landing.step_outcome (Said.Yielded a) (ideal_of m) (places_state.with_yielded (places_state.home a q) true q)) (sym p)
            ∙ ap (λ t. places_landing.step_outcome (Said.Yielded a) (ideal_of m) (places_state.with_yielded t true (placement_of h left))) (home_is h left a)
            ∙ (λ i. places_landing.step_outcome (Said.Yielded a) (sym st i) (places_state.with_yielded (tile_of h a) true (placement_of h left))),
        ready_sound h left m.kernel.ready k.yielded s,
      )
