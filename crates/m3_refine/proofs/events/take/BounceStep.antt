-- The machine's step where a tile takes Save, and the event in which a tile sends a packet on to the kernel.
use Rattle.std.proofs.Common.{◌≡◌, ℕ, ◌+◌, ◌*◌, ◌<◌, false, cond, List, [], ◌∷◌, ◌++◌, Some, None, refl, sym, ◌∙◌, ap, arith, set, get_or, length, map}
use Rattle.std.specs.Prelude.{◌==◌, ◌||◌}
use Rattle.std.proofs.lemmas.List.{get_or-map, set-get_or}
use Rattle.m3_base.specs.declared.ids.FlightId.{FlightId}
use Rattle.m3_base.specs.declared.packet.Packet.{Packet}
use Rattle.m3_base.specs.declared.event.Event.{Event}
use Rattle.m3_base.specs.declared.event.Said.{Said}
use Rattle.m3_base.specs.Ideal.Flights.{name_of, same_name, flight, new_flight, sorted_by_name}
use Rattle.m3_base.specs.Placement.State as places_state
use Rattle.m3_base.specs.Placement.Take as places_take
use Rattle.m3_base.specs.Placement.Landing as places_landing
use Rattle.m3_base.specs.Placement.Step.{placement_step}
use Rattle.m3_base.specs.Placement.Routing.{target, target_of}
use Rattle.m3_base.specs.Placement.Take.{is_here}
use Rattle.m3_base.proofs.FlightOrder.{find-new}
use Rattle.m3_base.proofs.FlightNames.{flight-new}
use Rattle.m3_model.specs.Config.Site.{Site}
use Rattle.m3_model.specs.Parcel.{Parcel, Data}
use Rattle.m3_model.specs.Tile.Step.{resident_of, tile_take, take_here, bounced}
use Rattle.m3_model.specs.Kernel.Step.{entry_of}
use Rattle.m3_model.specs.Machine.{Machine, Kernel_part, Memory_part, Tile_part, empty_tile, tile_at, link_at, with_link, with_part, with_parcels, machine_step, done_by, part_step, part_at, front, rest, of_tile}
use Rattle.m3_model.specs.Abstraction.{flat_map, flat_links, held_by, packets_in, all_packets, ideal_of, link_token, actor_by, current_act, placement_of}
use Rattle.m3_refine.proofs.lists.Insertion.{Inserts, inserts_left, pop_one}
use Rattle.m3_refine.proofs.abstraction.MoveWithinMachine.{by_name-inserts}
use Rattle.m3_refine.proofs.abstraction.MoveContext.{name_inserts, bounces_at}
use Rattle.m3_refine.proofs.abstraction.FindActor.{moved_tokens}
use Rattle.m3_base.specs.Ideal.FlightNames.{Distinct}

-- ---- a packet, in the ideal state

name-new : (n : FlightId) (p : Packet) (ps : List Packet) → same_name n (name_of p) ≡ false → flight n ps ≡ None → flight n (new_flight p ps) ≡ None
name-new n p ps h k = flight-new n p ps h ∙ k

pub name-by_name : (n : FlightId) (xs : List Packet) → flight n xs ≡ None → flight n (sorted_by_name xs) ≡ None
name-by_name n [] h = refl
name-by_name n (x ∷ xs) h = grind (arith, h, name-by_name n xs, name-new n x (sorted_by_name xs))

pub packet_at : (p : Packet) (base xs : List Packet) → Inserts p base xs → flight (name_of p) base ≡ None → flight (name_of p) (sorted_by_name xs) ≡ Some p
packet_at p base xs h a =
    ap (flight (name_of p)) (by_name-inserts p base xs h a) ∙ find-new p (sorted_by_name base) (name-by_name (name_of p) base a)

module _ (h : Site) (m : Machine) (t from : ℕ) (ht : t < length m.tiles) (hi : 16 * from + t < length m.links) (hj : 16 * t + 0 < length m.links) (t0 : (t == 0) ≡ false) (t1 : (t == 1) ≡ false) where
  -- a take at a tile is the tile's local step on its front
  pub take_step : (q : Parcel) (qs : List Parcel) → link_at from t m ≡ q ∷ qs
      → machine_step h m (Event.Take t from) None ≡ done_by t (with_link from t qs m) (Some (of_tile (tile_take h (tile_at t m) q)))
  take_step q qs g =
      ap (λ l. done_by t (with_link from t (rest l) m) (part_step h (part_at t m) (Event.Take t from) None (front l))) g
      ∙ ap (λ b. done_by t (with_link from t qs m) (part_step h (cond b (Kernel_part m.kernel) (cond (t == 1) (Memory_part m.memory) (Tile_part (tile_at t m)))) (Event.Take t from) None (Some q))) t0
      ∙ ap (λ b. done_by t (with_link from t qs m) (part_step h (cond b (Memory_part m.memory) (Tile_part (tile_at t m))) (Event.Take t from) None (Some q))) t1

  -- what the machine is once a packet has bounced
  abbrev pub after_bounce : Packet → List Parcel → Machine
  after_bounce p qs = with_parcels t ((0, Data p) ∷ []) (with_part t (Tile_part (tile_at t m)) (with_link from t qs m))

  pub bounce_step : (p : Packet) (qs : List Parcel) → link_at from t m ≡ Data p ∷ qs → is_here (target p) (current_act (tile_at t m)) ≡ false → (a : ℕ) → target p ≡ Some a
      → machine_step h m (Event.Take t from) None ≡ Some (record { outcome = record { made = None; said = Said.Bounced (name_of p); restore = None }; machine = after_bounce p qs })
  bounce_step p qs g away a aim =
      take_step (Data p) qs g
      ∙ ap (λ b. done_by t (with_link from t qs m) (Some (of_tile (cond b (take_here h (tile_at t m) p (tile_at t m).current) (bounced (tile_at t m) p (target p)))))) away
      ∙ ap (λ o. done_by t (with_link from t qs m) (Some (of_tile (bounced (tile_at t m) p o)))) aim

  pub bounces : (p : Packet) (qs : List Parcel) → link_at from t m ≡ Data p ∷ qs → is_here (target p) (current_act (tile_at t m)) ≡ false → (a : ℕ) → target p ≡ Some a → Distinct (all_packets m)
      → placement_step (ideal_of m) (placement_of h m) (Event.Take t from) None
      ≡ Some (record { said = Said.Bounced (name_of p); restore = None; state = ideal_of (after_bounce p qs); places = placement_of h (after_bounce p qs) })
  bounces p qs g away a aim apart =
      let s = ideal_of m in
      let id = name_of p in
      let q = places_state.with_link from t (map link_token qs) (placement_of h m) in
      let hold = flat_map held_by m.kernel.seats in
      let before : Inserts p (hold ++ flat_links packets_in (set m.links (16 * from + t) qs)) (all_packets m) =
      inserts_left hold p (flat_links packets_in (set m.links (16 * from + t) qs)) (flat_links packets_in m.links) (pop_one packets_in m.links (16 * from + t) (Data p) qs p hi g refl) in
      let flies : flight id s.flights ≡ Some p =
      packet_at p (hold ++ flat_links packets_in (set m.links (16 * from + t) qs)) (all_packets m) before (name_inserts p (hold ++ flat_links packets_in (set m.links (16 * from + t) qs)) (all_packets m) before apart) in
      let link : places_state.link from t (placement_of h m) ≡ places_state.Data id ∷ map link_token qs =
      get_or-map (λ xs. map link_token xs) m.links (16 * from + t) [] [] hi ∙ ap (λ l. map link_token l) g in
      let current : places_state.current_of t q ≡ current_act (tile_at t m) = get_or-map current_act m.tiles t (empty_tile t) None ht in
      let elsewhere : is_here (target_of (flight id s.flights)) (places_state.current_of t q) ≡ false =
      ap (λ f. is_here (target_of f) (places_state.current_of t q)) flies ∙ ap (is_here (target p)) current ∙ away in
      let go : places_state.with_token t 0 (places_state.Data id) q ≡ placement_of h (after_bounce p qs) =
      let tiles = sym (set-get_or m.tiles t (empty_tile t)) in
      let links = sym (moved_tokens m.links (16 * from + t) (16 * t + 0) qs (Data p) hj) in
      λ k. record {
        current = map current_act (tiles k);
        actors = map (λ x. actor_by x (entry_of x.act m.kernel) (resident_of x.act (get_or (tiles k) x.tile (empty_tile x.tile)))) h.homes;
        links = links k;
        ready = m.kernel.ready;
        yielded = m.kernel.yielded;
        quantum = h.quantum;
      } in
      ap (λ l. places_take.take s (placement_of h m) t from l) link
      ∙ ap (λ b. cond b (places_take.take_at_kernel s q (places_state.Data id)) (places_take.take_at_tile s q t (places_state.Data id))) t0
      ∙ ap (λ b. cond (b || is_here (target_of (flight id s.flights)) (places_state.current_of t q)) (places_take.land_here t q (places_landing.landing_result s id)) (places_take.bounced s q t id (target_of (flight id s.flights)))) t1
      ∙ ap (λ b. cond b (places_take.land_here t q (places_landing.landing_result s id)) (places_take.bounced s q t id (target_of (flight id s.flights)))) elsewhere
      ∙ ap (places_take.bounced s q t id) (ap target_of flies ∙ aim)
      ∙ ap (λ r. places_landing.step_outcome (Said.Bounced id) s r) go
      ∙ ap (λ r. places_landing.step_outcome (Said.Bounced id) r (placement_of h (after_bounce p qs))) (sym (bounces_at m t from ht hi hj p qs g apart))
