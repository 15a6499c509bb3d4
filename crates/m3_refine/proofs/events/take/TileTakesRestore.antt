-- A tile takes Restore: the whole event.
use Rattle.std.proofs.Common.{◌≡◌, ℕ, ◌+◌, ◌*◌, ◌<◌, ◌≤◌, true, false, cond, List, [], ◌∷◌, ◌++◌, Some, None, refl, sym, subst, ◌∙◌, ap, arith, set, get_or, length, map}
use Rattle.std.specs.Prelude.{◌==◌, ◌&&◌}
use Rattle.std.proofs.lemmas.Bool.Decides.{nat_tests}
use Rattle.std.proofs.lemmas.List.{map-set, get_or-map, length-set}
use Rattle.m3_base.specs.declared.event.Event.{Event}
use Rattle.m3_base.specs.declared.event.Said.{Said}
use Rattle.m3_base.specs.Ideal.Context.{Context}
use Rattle.m3_base.specs.Placement.State as places_state
use Rattle.m3_base.specs.Placement.Take as places_take
use Rattle.m3_base.specs.Placement.Landing as places_landing
use Rattle.m3_base.specs.Placement.State.{Placement, PlacedActivity}
use Rattle.m3_merge.proofs.MergedIsRun.{each_map}
use Rattle.m3_model.specs.Config.Site.{Site, tile_of, tile_in}
use Rattle.m3_model.specs.Parcel.{Heard, Parcel, Restore}
use Rattle.m3_model.specs.Tile.State.{Resident, Tile}
use Rattle.m3_model.specs.LocalStep.{dropped_result}
use Rattle.m3_model.specs.Config.KnownActivities.{is_named_context, has_bounded_counters}
use Rattle.m3_model.specs.Tile.Step.{resident_of, with_resident, with_current, resident_at_restore, take_restore, after_restore}
use Rattle.m3_model.specs.Kernel.Step.{entry_of}
use Rattle.m3_model.specs.Machine.{Machine, Tile_part, empty_tile, tile_at, link_at, with_link, with_part, machine_step, done_by, of_tile}
use Rattle.m3_model.specs.Abstraction.{flat_map, flat_links, option_list, tile_contexts, entry_contexts, contexts_in, packets_in, closed_in, held_by, all_contexts, is_in, ideal_of, link_token, actor_in, actor_by, current_act, placement_of}
use Rattle.m3_model.specs.Invariant.Distinct.{DistinctClosed}
use Rattle.m3_model.specs.Invariant.Housing.{HasHome, resident_at}
use Rattle.m3_model.specs.Invariant.LinkWalk.{CurrentAlongLink, placed_on}
use Rattle.m3_model.specs.Invariant.Parcels.{ParcelOk}
use Rattle.m3_model.specs.Invariant.Scheduling.{saves_in_flight, LinksLeadOn}
use Rattle.m3_model.specs.Invariant.Structure.{MachineStructure}
use Rattle.m3_model.specs.Refinement.{Refines}
use Rattle.m3_refine.proofs.events.take.RouteStep.{itself}
use Rattle.m3_refine.proofs.lists.Insertion.{Inserts, inserts_left, inserts_right, around_set, fills, pop_none, pop_one, inserted_each}
use Rattle.m3_refine.proofs.abstraction.MoveContext.{restores_at}
use Rattle.m3_refine.proofs.abstraction.FindActor.{tokens, find_actor}
use Rattle.m3_refine.proofs.events.take.BounceStep.{take_step}
use Rattle.m3_refine.proofs.abstraction.CurrentAlongLink.{front_restore}
use Rattle.m3_refine.proofs.events.take.KernelTakesSavedStep.{restore_fits}
use Rattle.m3_refine.proofs.lists.Update.{is_link, links_either}
use Rattle.m3_refine.proofs.lists.PerLink.{pop_length, pop_front, pop_each, pop_leavings, pop_orderly, moves_each, moves_known, moves_apart}
use Rattle.m3_refine.proofs.arrival.CurrentContext.{stay_key}
use Rattle.m3_refine.proofs.events.take.RouteRefines.{KnownActivity, known_activity}
use Rattle.m3_refine.proofs.opening.HomesAndContexts.{some_there}
use Rattle.m3_base.specs.Ideal.FlightNames.{Distinct}
use Rattle.m3_refine.proofs.abstraction.MoveWithinMachine.{SamePackets, SameClosed}
use Rattle.m3_refine.proofs.abstraction.ChangeContext.{Alike, actor-alike, map-same, there-alike}
use Rattle.m3_refine.proofs.abstraction.ChangeCurrentContext.{parcel-alike, seat-alike}
use Rattle.m3_refine.proofs.abstraction.ChangeResident.{restayed, restayed_places, restayed_sound, restayed_state, tile_again, tile_there}
use Rattle.m3_refine.proofs.events.take.TileTakesSaveOrBounces.{tile_either, stays_like}

module _ (h : Site) (m : Machine) (t : ℕ) (low : 2 ≤ t) (high : t < 16) (sound : MachineStructure h m) (c : Context) (xs : List Heard) (qs : List Parcel) (g : link_at 0 t m ≡ Restore c.act c xs ∷ qs) (numbers : has_bounded_counters c ≡ true) where
  zero_low : 0 < 16
  zero_low = omega arith

  in_tiles : t < length m.tiles
  in_tiles = subst (λ n. t < n) (sym sound.tiles) high

  in_links : 16 * 0 + t < length m.links
  in_links = is_link m.links 0 t qs zero_low high sound.links

  to_kernel : 16 * t + 0 < length m.links
  to_kernel = is_link m.links t 0 qs high zero_low sound.links

  no_kernel : (t == 0) ≡ false
  no_kernel = grind (arith, nat_tests, low)

  no_memory : (t == 1) ≡ false
  no_memory = grind (arith, nat_tests, low)

  nobody : (tile_at t m).current ≡ None
  nobody = restore_fits h m sound t low high c xs qs g

  pub ok : ParcelOk h m.kernel m.tiles 0 t (Restore c.act c xs)
  ok = pop_front m.links 0 t zero_low high sound.links (Restore c.act c xs) qs g (ParcelOk h m.kernel m.tiles) sound.parcels

  its : KnownActivity h m c.act
  its = known_activity h m c.act sound ok.1

  pub stay : (z : Resident) × (resident_of c.act (tile_at t m) ≡ Some z)
  stay = let s = some_there (resident_at h m.tiles c.act) (sound.housed.stays c.act ok.1) in (s.0, ap (λ u. resident_of c.act (tile_at u m)) ok.2 ∙ s.1)

  z_act : stay.0.act ≡ c.act
  z_act = stay_key c.act (tile_at t m).stays stay.0 stay.1

  abbrev come : Tile
  come = with_current (Some c) (tile_at t m)

  -- its context has come, and its stay hasn't begun
  abbrev n : Machine
  n = with_part t (Tile_part (with_current (Some c) (tile_at t m))) (with_link 0 t qs m)

  -- ---- its context moves from the link to the tile

  moves : (base : List Context) × Inserts c base (all_contexts m) × Inserts c base (all_contexts n)
  moves =
      let seats = flat_map entry_contexts m.kernel.seats in
      let old = flat_links contexts_in m.links in
      let left = flat_links contexts_in (set m.links (16 * 0 + t) qs) in
      let ts = flat_map tile_contexts m.tiles in
      let us = flat_map tile_contexts (set m.tiles t come) in
      let comes : Inserts c ts us =
      fills tile_contexts (flat_map tile_contexts) (get_or m.tiles t (empty_tile t)) m.tiles (λ y. set m.tiles t y) c come (around_set tile_contexts (empty_tile t) m.tiles t in_tiles) (ap option_list nobody) refl in (
        ts ++ (seats ++ left),
        inserts_left ts c (seats ++ left) (seats ++ old) (inserts_left seats c left old (pop_one contexts_in m.links (16 * 0 + t) (Restore c.act c xs) qs c in_links g refl)),
        inserts_right (seats ++ left) c ts us comes,
      )

  packets_same : SamePackets m n
  packets_same = ap (λ l. flat_map held_by m.kernel.seats ++ l) (pop_none packets_in m.links (16 * 0 + t) (Restore c.act c xs) qs in_links g refl)

  closed_same : SameClosed m n
  closed_same = pop_none closed_in m.links (16 * 0 + t) (Restore c.act c xs) qs in_links g refl

  -- ---- stays

  tile_set : (P : ℕ → Tile → Type 0) (u : ℕ) → ((t == u) ≡ false → P u (tile_at u m)) → (t ≡ u → P u come) → P u (tile_at u n)
  tile_set = tile_either m.tiles t in_tiles come refl

  like : (a u : ℕ) → Alike (resident_of a (tile_at u m)) (resident_of a (tile_at u n))
  like = stays_like m.tiles t in_tiles come refl

  like_home : (a : ℕ) → Alike (resident_at h m.tiles a) (resident_at h n.tiles a)
  like_home a = like a (tile_of h a)

  walks' : LinksLeadOn h n m.kernel
  walks' w lo hi =
      links_either m.links 0 t qs zero_low high sound.links (λ x u ps. x ≡ 0 → 2 ≤ u → u < 16 → CurrentAlongLink (current_act (tile_at u n)) ps (placed_on h u m.kernel)) 0 w hi
      (λ d e l k. subst (λ o. CurrentAlongLink o (link_at 0 w m) (placed_on h w m.kernel)) (sym (still (let z : (t == w) ≡ false = grind (arith, nat_tests, d) in z))) (sound.seated.walks w lo hi))
      (λ e d x l k. subst (λ u. CurrentAlongLink (current_act (tile_at u n)) qs (placed_on h u m.kernel)) d now) refl lo hi
    where
      still : (t == w) ≡ false → current_act (tile_at w n) ≡ current_act (tile_at w m)
      still d = tile_set (λ v y. (t == v) ≡ false → current_act y ≡ current_act (tile_at v m)) w (λ k e. refl) (λ k e. absurd (let z : (t == w) ≡ true = grind (arith, nat_tests, k) in cc)) d

      come_there : current_act (tile_at t n) ≡ Some c.act
      come_there = tile_set (λ v y. v ≡ t → current_act y ≡ Some c.act) t (λ d e. absurd (let z : (t == t) ≡ true = grind (arith, nat_tests) in cc)) (λ d e. refl) refl

      now : CurrentAlongLink (current_act (tile_at t n)) qs (placed_on h t m.kernel)
      now =
          subst (λ o. CurrentAlongLink o qs (placed_on h t m.kernel)) (sym come_there)
          (front_restore (current_act (tile_at t m)) c xs qs (placed_on h t m.kernel) (subst (λ l. CurrentAlongLink (current_act (tile_at t m)) l (placed_on h t m.kernel)) g (sound.seated.walks t low high))).1

  lives : HasHome h t c.act
  lives = (its.home, its.found, sym (ap tile_in its.found) ∙ sym ok.2)

  come_sound : MachineStructure h n
  come_sound =
      record {
        setup = sound.setup;
        tiles = length-set m.tiles t come ∙ sound.tiles;
        links = pop_length m.links 0 t zero_low high sound.links (Restore c.act c xs) qs g;
        acts = moves_apart c moves.0 (all_contexts m) (all_contexts n) moves.1 moves.2 sound.acts;
        known = λ a k. moves_known c moves.0 (all_contexts m) (all_contexts n) moves.1 moves.2 a (sound.known a k);
        named = moves_each c moves.0 (all_contexts m) (all_contexts n) moves.1 moves.2 (λ c. is_named_context h c ≡ true) sound.named;
        names = subst Distinct (sym packets_same) sound.names;
        housed = record {
          seats = sound.housed.seats;
          tiles = λ u k. tile_set (λ v y. y.tile ≡ v) u (λ d. sound.housed.tiles u k) (λ d. sound.housed.tiles t high ∙ d);
          stays = λ a k. there-alike (resident_at h m.tiles a) (resident_at h n.tiles a) (like_home a) (sound.housed.stays a k);
          current = λ u w k. tile_set (λ v y. y.current ≡ Some w → HasHome h v w.act) u (λ d. sound.housed.current u w)
              (λ d e. subst (λ v. HasHome h v w.act) d (let q : c ≡ w = cc in subst (λ z. HasHome h t z.act) q lives)) k;
        };
        parcels = pop_each m.links 0 t zero_low high sound.links (Restore c.act c xs) qs g (ParcelOk h m.kernel n.tiles)
            (λ a b ha hb. each_map (ParcelOk h m.kernel m.tiles a b) (ParcelOk h m.kernel n.tiles a b) (parcel-alike h m.kernel m.tiles n.tiles like_home a b) (link_at a b m) (sound.parcels a b ha hb));
        seated = record {
          seats = λ a x k. (seat-alike h m.tiles n.tiles like_home x x.seating (sound.seated.seats a x k).0, (sound.seated.seats a x k).1);
          filled = sound.seated.filled;
          leaving = sound.seated.leaving;
          departing = λ a. (let r = pop_leavings m.links 0 t zero_low high sound.links (Restore c.act c xs) qs g a in let z : saves_in_flight a (set m.links (16 * 0 + t) qs) ≡ saves_in_flight a m.links = omega arith in z) ∙ sound.seated.departing a;
          walks = walks';
          orderly = pop_orderly m.links 0 t zero_low high sound.links (Restore c.act c xs) qs g sound.seated.orderly;
        };
        closed = subst DistinctClosed (sym closed_same) sound.closed;
        shut = λ x k. sound.shut x (subst (λ l. is_in l x ≡ true) closed_same k);
        holders = sound.holders;
      }

  -- ---- the places

  abbrev q : Placement
  q = places_state.with_link 0 t (map link_token qs) (placement_of h m)

  come_places : placement_of h n ≡ places_state.with_current t (Some c.act) q
  come_places =
      let current = map-set current_act m.tiles t come in
      let links : tokens (set m.links (16 * 0 + t) qs) ≡ set (tokens m.links) (16 * 0 + t) (map link_token qs) = map-set (λ xs. map link_token xs) m.links (16 * 0 + t) qs in
      let actors = map-same (actor_in n) (actor_in m) (λ v. actor-alike v (entry_of v.act m.kernel) (resident_of v.act (tile_at v.tile m)) (resident_of v.act (tile_at v.tile n)) (like v.act v.tile)) h.homes in
      λ k. record (placement_of h m) { current = current k; actors = actors k; links = links k }

  -- ---- its stay begins

  abbrev pub begun : Resident
  begun = resident_at_restore xs stay.0

  now : tile_at t n ≡ come
  now = tile_there (with_link 0 t qs m) t in_tiles come

  come_here : (tile_at t n).current ≡ Some c
  come_here = ap (λ (u : Tile). u.current) now

  stay_there : resident_of c.act (tile_at t n) ≡ Some stay.0
  stay_there = ap (resident_of c.act) now ∙ stay.1

  abbrev pub restored : Machine
  restored = with_part t (Tile_part (with_resident begun (with_current (Some c) (tile_at t m)))) (with_link 0 t qs m)

  same : restayed h n t high come_sound c come_here stay.0 begun stay_there z_act ≡ restored
  same = tile_again (with_link 0 t qs m) t in_tiles come (with_resident begun)

  restored_sound : MachineStructure h restored
  restored_sound = subst (MachineStructure h) same (restayed_sound h n t high come_sound c come_here stay.0 begun stay_there z_act)

  its_actor : actor_in m its.home ≡ actor_by its.home (entry_of its.home.act m.kernel) (Some stay.0)
  its_actor =
      ap (actor_by its.home (entry_of its.home.act m.kernel))
      (ap (λ a. resident_of a (tile_at its.home.tile m)) its.key ∙ ap (λ u. resident_of c.act (tile_at u m)) (sym (ap tile_in its.found) ∙ sym ok.2) ∙ stay.1)

  restored_places : placement_of h restored ≡ places_take.new_stay (Some (actor_in m its.home)) (places_state.with_current t (Some c.act) q)
  restored_places =
      ap (placement_of h) (sym same)
      ∙ restayed_places h n t high come_sound c come_here stay.0 begun stay_there z_act its.home its.found
      ∙ ap (places_state.with_actor (actor_by its.home (entry_of its.home.act m.kernel) (Some begun))) come_places
      ∙ ap (λ (x : PlacedActivity). places_take.new_stay (Some x) (places_state.with_current t (Some c.act) q)) (sym its_actor)

  pub step : machine_step h m (Event.Take t 0) None ≡ Some (record { outcome = record { made = None; said = Said.Current c.act; restore = None }; machine = restored })
  step =
      let x = tile_at t m in
      let left = with_link 0 t qs m in
      take_step h m t 0 in_tiles in_links to_kernel no_kernel no_memory (Restore c.act c xs) qs g
      ∙ ap (λ o. done_by t left (Some (of_tile (take_restore h x c.act c xs o)))) nobody
      ∙ ap (λ b. done_by t left (Some (of_tile (cond (b && (is_named_context h c && has_bounded_counters c)) (after_restore x c xs (resident_of c.act x)) (dropped_result x))))) (itself c.act)
      ∙ ap (λ b. done_by t left (Some (of_tile (cond (b && has_bounded_counters c) (after_restore x c xs (resident_of c.act x)) (dropped_result x))))) (inserted_each (λ c. is_named_context h c ≡ true) c moves.0 (all_contexts m) moves.1 sound.named)
      ∙ ap (λ b. done_by t left (Some (of_tile (cond b (after_restore x c xs (resident_of c.act x)) (dropped_result x))))) numbers
      ∙ ap (λ o. done_by t left (Some (of_tile (after_restore x c xs o)))) stay.1

  pub restore_refines : Refines h m (Event.Take t 0) None (machine_step h m (Event.Take t 0) None)
  restore_refines =
      let s = ideal_of m in
      let link : places_state.link 0 t (placement_of h m) ≡ places_state.Restore c.act ∷ map link_token qs =
      get_or-map (λ xs. map link_token xs) m.links (16 * 0 + t) [] [] in_links ∙ ap (λ l. map link_token l) g in
      let state : ideal_of restored ≡ ideal_of m = ap ideal_of (sym same) ∙ restayed_state h n t high come_sound c come_here stay.0 begun stay_there z_act ∙ restores_at m t 0 in_tiles in_links to_kernel c xs qs come g nobody refl sound.acts in
      subst (Refines h m (Event.Take t 0) None) (sym step) (
        ap (λ l. places_take.take s (placement_of h m) t 0 l) link
            ∙ ap (λ b. cond b (places_take.take_at_kernel s q (places_state.Restore c.act)) (places_take.take_at_tile s q t (places_state.Restore c.act))) no_kernel
            ∙ ap (λ o. places_landing.step_outcome (Said.Current c.act) s (places_take.new_stay o (places_state.with_current t (Some c.act) q))) (find_actor m c.act h.homes its.home its.found)
            ∙ (λ k. places_landing.step_outcome (Said.Current c.act) (sym state k) (sym restored_places k)),
        restored_sound,
      )
