-- The order of a switch.
use Rattle.std.proofs.Common.{◌≡◌, ℕ, Bool, true, false, cond, [], Some, None, refl, sym, subst, ◌∙◌, ap, arith, Option}
use Rattle.std.specs.Prelude.{if◌then◌else◌, ◌==◌, not, ◌&&◌, ◌||◌}
use Rattle.std.specs.List.{list_any}
use Rattle.std.proofs.lemmas.Bool.Decides.{nat_tests}
use Rattle.m3_base.specs.declared.order.Order.{Order}
use Rattle.m3_base.specs.declared.event.Event.{Event}
use Rattle.m3_base.specs.declared.event.Made.{Made}
use Rattle.m3_base.specs.declared.event.No.{No}
use Rattle.m3_base.specs.declared.event.Said.{Said}
use Rattle.m3_base.specs.Lists.Counting.{one, how_many}
use Rattle.m3_base.specs.Placement.State.{Placement, PlacedActivity}
use Rattle.m3_base.specs.Placement.Step.{placement_step}
use Rattle.m3_model.specs.Config.Site.{Site, tile_of}
use Rattle.m3_model.specs.Kernel.State.{SavedActivity, EntryResidency, Is_placed, Is_leaving, Is_resting, Is_coming, ActivityEntry}
use Rattle.m3_model.specs.LocalStep.{local_result}
use Rattle.m3_model.specs.Config.KnownActivities.{is_home}
use Rattle.m3_model.specs.Kernel.Step.{entry_of, is_placed_entry, is_leaving_entry, is_coming_entry, is_moving_at, placed_at, switch, switch_entry, after_switch}
use Rattle.m3_model.specs.Machine.{Machine, machine_step, done_by, of_kernel}
use Rattle.m3_model.specs.Abstraction.{ideal_of, actor_in, placement_of}
use Rattle.m3_model.specs.Invariant.Scheduling.{has_home, is_coming_at}
use Rattle.m3_model.specs.Invariant.Structure.{MachineStructure}
use Rattle.m3_model.specs.Refinement.{Refines}
use Rattle.m3_refine.proofs.abstraction.FindActor.{find_actor}
use Rattle.m3_refine.proofs.abstraction.EntriesMatchActors.{are_seats, actor_seat, actor_place, seat_home, seat_tile, moving_any, placed_first, placed_same, coming_same, IsEntryOf, seat_entry}
use Rattle.m3_refine.proofs.events.take.RouteRefines.{KnownActivity, known_activity}
use Rattle.m3_base.specs.Placement.State as places_state
use Rattle.m3_base.specs.Placement.Landing as places_landing
use Rattle.m3_base.specs.Placement.Order as places_order
use Rattle.m3_refine.proofs.events.order.SwitchLists.{any_found, fewer, home_has, placed_found, placed_is, placed_some}
use Rattle.m3_refine.proofs.events.take.RestoreGoesOut.{any_none as any_false}
use Rattle.std.proofs.lemmas.Bool.{and_parts as split}
use Rattle.m3_refine.proofs.events.order.SwitchMade.{leaving, leaving_state, leaving_places, leaving_sound}

module _ (h : Site) (m : Machine) (sound : MachineStructure h m) (t : ℕ) (a : ℕ) (made : Option Made) (known : is_home h a ≡ true) where
  its : KnownActivity h m a
  its = known_activity h m a sound known

  abbrev e : Event
  e = Event.Order (Order.Switch t a)

  abbrev x : ActivityEntry
  x = its.seat

  its_there : IsEntryOf m.kernel its.seat
  its_there = seat_entry h m.kernel its.seat its.home its.its

  -- what the kernel does
  order_step : machine_step h m e made ≡ done_by 0 m (Some (of_kernel (switch h m.kernel t (Some its.seat))))
  order_step = ap (λ o. done_by 0 m (Some (of_kernel (switch h m.kernel t o)))) (ap (λ n. entry_of n m.kernel) (sym its.key) ∙ its.its.seat)

  -- what the places do
  abbrev P : Placement
  P = placement_of h m

  abbrev A : PlacedActivity
  A = actor_in m its.home

  abbrev place_by : Bool → Bool → Bool → Option PlacedActivity → Option places_landing.PlacementResult
  place_by b c d o =
      if not b
      then places_landing.step_outcome (Said.No No.NotHome) (ideal_of m) (placement_of h m)
      else (if c then places_landing.step_outcome (Said.No No.Already) (ideal_of m) (placement_of h m) else (if d then places_landing.step_outcome (Said.No No.Leaving) (ideal_of m) (placement_of h m) else places_order.after_switch (ideal_of m) (placement_of h m) t (actor_in m its.home) o))

  place_step : placement_step (ideal_of m) (placement_of h m) e made
      ≡ place_by (tile_of h its.seat.act == t) (is_placed_entry its.seat.seating || is_coming_entry its.seat.seating) (list_any (is_moving_at h t) m.kernel.seats) (actor_seat h m (placed_at h t m.kernel.seats))
  place_step =
      let are = are_seats h m.kernel sound.housed.seats sound.setup.homes in
      ap (places_order.switch (ideal_of m) (placement_of h m) t) (find_actor m a h.homes its.home its.found)
      ∙ ap (λ n. place_by (n == t) (places_state.is_placed (actor_in m its.home).place || places_state.is_coming (actor_in m its.home).place) (list_any (places_order.is_moving_at t) (placement_of h m).actors) (places_order.placed_at t (placement_of h m).actors)) (sym (seat_tile h m its.seat its.home its.its))
      ∙ ap (λ w. place_by (tile_of h its.seat.act == t) (places_state.is_placed w || places_state.is_coming w) (list_any (places_order.is_moving_at t) (placement_of h m).actors) (places_order.placed_at t (placement_of h m).actors)) (actor_place h m its.seat its.home its.its)
      ∙ (λ i. place_by (tile_of h its.seat.act == t) (placed_same its.seat.seating i || coming_same its.seat.seating i) (moving_any h m t m.kernel.seats h.homes are i) (placed_first h m t m.kernel.seats h.homes are i))

  -- nothing changes
  says_no : (why : No) → switch h m.kernel t (Some its.seat) ≡ local_result (Said.No why) m.kernel [] → placement_step (ideal_of m) (placement_of h m) e made ≡ places_landing.step_outcome (Said.No why) (ideal_of m) (placement_of h m) → Refines h m e made (machine_step h m e made)
  says_no why k p = subst (Refines h m e made) (sym (order_step ∙ ap (λ d. done_by 0 m (Some (of_kernel d))) k)) (p, sound)

  moving : Bool
  moving = list_any (is_moving_at h t) m.kernel.seats

  makes : (z : SavedActivity) → its.seat.seating ≡ Is_resting z → tile_of h its.seat.act ≡ t → list_any (is_moving_at h t) m.kernel.seats ≡ false → Refines h m e made (machine_step h m e made)
  makes z rests here' still =
      let none : how_many (is_moving_at h t) m.kernel.seats ≡ 0 = any_false (is_moving_at h t) m.kernel.seats still in
      let no_coming : how_many (is_coming_at h t) m.kernel.seats ≡ 0 = fewer (is_coming_at h t) (is_moving_at h t) (λ s k. comes_moves (tile_of h s.act == t) (is_leaving_entry s.seating) (is_coming_entry s.seating) k) m.kernel.seats none in
      let has : has_home t h.homes ≡ true = home_has t a h.homes its.home its.found (sym (seat_tile h m its.seat its.home its.its) ∙ here') in
      let f = sound.seated.filled t in
      let one' : one (has_home t h.homes) ≡ 1 = ap one has in
      let first = placed_some h t m.kernel.seats (omega arith) in
      let b = placed_found h m.kernel t m.kernel.seats h.homes first.0 (are_seats h m.kernel sound.housed.seats sound.setup.homes) first.1 in
      let parts = split (tile_of h first.0.act == t) (is_placed_entry first.0.seating) b.2 in
      let b_tile : tile_of h first.0.act ≡ t = (let k = parts.0 in grind (arith, nat_tests, k)) in
      let placed = placed_is first.0.seating parts.1 in
      let one-and : (tile_of h its.seat.act == t) ≡ true = grind (arith, nat_tests, here') in
      let n = leaving h m sound t its.seat first.0 its.home b.0 its.its b.1 z rests placed here' b_tile first.1 in
      let step : machine_step h m e made ≡ Some (record { outcome = record { made = None; said = Said.Save first.0.act; restore = None }; machine = n }) =
      order_step
      ∙ ap (λ d. done_by 0 m (Some (of_kernel (cond d (switch_entry h m.kernel t its.seat its.seat.seating) (local_result (Said.No No.NotHome) m.kernel []))))) one-and
      ∙ ap (λ w. done_by 0 m (Some (of_kernel (switch_entry h m.kernel t its.seat w)))) rests
      ∙ ap (λ d. done_by 0 m (Some (of_kernel (cond d (local_result (Said.No No.Leaving) m.kernel []) (after_switch h m.kernel t its.seat z (placed_at h t m.kernel.seats)))))) still
      ∙ ap (λ o. done_by 0 m (Some (of_kernel (after_switch h m.kernel t its.seat z o)))) first.1 in
      let state = leaving_state h m sound t its.seat first.0 its.home b.0 its.its b.1 z rests placed here' b_tile first.1 in
      let there = leaving_places h m sound t its.seat first.0 its.home b.0 its.its b.1 z rests placed here' b_tile first.1 in
      subst (Refines h m e made) (sym step) (
        place_step
            ∙ ap (λ d. place_by d (is_placed_entry its.seat.seating || is_coming_entry its.seat.seating) (list_any (is_moving_at h t) m.kernel.seats) (actor_seat h m (placed_at h t m.kernel.seats))) one-and
            ∙ ap (λ w. place_by true (is_placed_entry w || is_coming_entry w) (list_any (is_moving_at h t) m.kernel.seats) (actor_seat h m (placed_at h t m.kernel.seats))) rests
            ∙ ap (λ d. place_by true false d (actor_seat h m (placed_at h t m.kernel.seats))) still
            ∙ ap (λ o. place_by true false false o) (ap (actor_seat h m) first.1 ∙ seat_home h m first.0 b.0 b.1)
            ∙ (λ i. places_landing.step_outcome (Said.Save (sym b.1.act i)) (sym state i) (sym there i)),
        leaving_sound h m sound t its.seat first.0 its.home b.0 its.its b.1 z rests placed here' b_tile first.1,
      )
    where
      comes_moves : (p q r : Bool) → (p && r) ≡ true → (p && (q || r)) ≡ true
      comes_moves true q true e = grind arith
      comes_moves true q false e = absurd (cc)
      comes_moves false q r e = absurd (cc)

  by_seating : (w : EntryResidency) → its.seat.seating ≡ w → (tile_of h its.seat.act == t) ≡ true → (d : Bool) → list_any (is_moving_at h t) m.kernel.seats ≡ d → Refines h m e made (machine_step h m e made)
  by_seating w s one-and d still = by_case w s d still
    where
      kernel_is : (w : EntryResidency) → its.seat.seating ≡ w → switch h m.kernel t (Some its.seat) ≡ switch_entry h m.kernel t its.seat w
      kernel_is w s = ap (λ b. cond b (switch_entry h m.kernel t its.seat its.seat.seating) (local_result (Said.No No.NotHome) m.kernel [])) one-and ∙ ap (switch_entry h m.kernel t its.seat) s

      places_are : (w : EntryResidency) → its.seat.seating ≡ w → placement_step (ideal_of m) (placement_of h m) e made ≡ place_by true (is_placed_entry w || is_coming_entry w) (list_any (is_moving_at h t) m.kernel.seats) (actor_seat h m (placed_at h t m.kernel.seats))
      places_are w s =
          place_step
          ∙ ap (λ b. place_by b (is_placed_entry its.seat.seating || is_coming_entry its.seat.seating) (list_any (is_moving_at h t) m.kernel.seats) (actor_seat h m (placed_at h t m.kernel.seats))) one-and
          ∙ ap (λ w. place_by true (is_placed_entry w || is_coming_entry w) (list_any (is_moving_at h t) m.kernel.seats) (actor_seat h m (placed_at h t m.kernel.seats))) s

      by_case : (w : EntryResidency) → its.seat.seating ≡ w → (d : Bool) → list_any (is_moving_at h t) m.kernel.seats ≡ d → Refines h m e made (machine_step h m e made)
      by_case Is_placed s d still = says_no No.Already (kernel_is Is_placed s) (places_are Is_placed s)
      by_case (Is_coming z) s d still = says_no No.Already (kernel_is (Is_coming z) s) (places_are (Is_coming z) s)
      by_case Is_leaving s d still =
          let m1 : is_moving_at h t its.seat ≡ true = ap (λ b. b && (is_leaving_entry its.seat.seating || is_coming_entry its.seat.seating)) one-and ∙ ap (λ w. is_leaving_entry w || is_coming_entry w) s in
          let all : list_any (is_moving_at h t) m.kernel.seats ≡ true = any_found (is_moving_at h t) its.seat.act m.kernel.seats its.seat its_there m1 in
          says_no No.Leaving (kernel_is Is_leaving s) (places_are Is_leaving s ∙ ap (λ b. place_by true false b (actor_seat h m (placed_at h t m.kernel.seats))) all)
      by_case (Is_resting z) s true still =
          says_no No.Leaving
          (kernel_is (Is_resting z) s ∙ ap (λ b. cond b (local_result (Said.No No.Leaving) m.kernel []) (after_switch h m.kernel t its.seat z (placed_at h t m.kernel.seats))) still)
          (places_are (Is_resting z) s ∙ ap (λ b. place_by true false b (actor_seat h m (placed_at h t m.kernel.seats))) still)
      by_case (Is_resting z) s false still = makes z s (let k = one-and in grind (arith, nat_tests, k)) still

  -- the order of a switch, made or refused
  pub switch_refines : Refines h m e made (machine_step h m e made)
  switch_refines = by_tile (tile_of h its.seat.act == t) refl
    where
      by_tile : (b : Bool) → (tile_of h its.seat.act == t) ≡ b → Refines h m e made (machine_step h m e made)
      by_tile true one-and = by_seating its.seat.seating refl one-and (list_any (is_moving_at h t) m.kernel.seats) refl
      by_tile false off =
          says_no No.NotHome (ap (λ b. cond b (switch_entry h m.kernel t its.seat its.seat.seating) (local_result (Said.No No.NotHome) m.kernel [])) off)
          (place_step ∙ ap (λ b. place_by b (is_placed_entry its.seat.seating || is_coming_entry its.seat.seating) (list_any (is_moving_at h t) m.kernel.seats) (actor_seat h m (placed_at h t m.kernel.seats))) off)
