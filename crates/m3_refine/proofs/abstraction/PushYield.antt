-- A tile sends the Yield of its current activity to the kernel: the kernel has that activity Placed or Leaving, and no Saved
-- of it is on the way.
use Rattle.std.proofs.Common.{◌≡◌, ℕ, ◌+◌, ◌*◌, ◌<◌, ◌≤◌, true, false, List, [], ◌∷◌, ◌++◌, Some, refl, sym, subst, ◌∙◌, ap, arith, length}
use Rattle.std.specs.Prelude.{◌||◌, ◌==◌}
use Rattle.std.proofs.lemmas.Bool.Decides.{nat_tests}
use Rattle.m3_base.specs.Ideal.Context.{Context}
use Rattle.m3_base.specs.Lists.EachElement.{Each}
use Rattle.m3_base.specs.Placement.State as places_state
use Rattle.m3_model.specs.Config.Site.{Site, tile_of}
use Rattle.m3_model.specs.Config.KnownActivities.{is_home}
use Rattle.m3_model.specs.Parcel.{Parcel, Data, Save, Saved, Restore, Yield, Closed}
use Rattle.m3_model.specs.Kernel.State.{EntryResidency, Is_placed, Is_leaving, Is_resting, Is_coming}
use Rattle.m3_model.specs.Kernel.Step.{entry_of, is_placed_entry, is_leaving_entry}
use Rattle.m3_model.specs.Machine.{Machine, tile_at, link_at, with_parcel}
use Rattle.m3_model.specs.Abstraction.{flat_map, tile_contexts, entry_contexts, residency_contexts, held_by, contexts_in, packets_in, closed_in, all_packets, all_closed, sorted_by_act, closed_from, is_in, ideal_of, placement_of}
use Rattle.m3_base.specs.Ideal.Flights.{sorted_by_name}
use Rattle.m3_model.specs.Invariant.Distinct.{DistinctClosed}
use Rattle.m3_base.specs.Ideal.FlightNames.{Distinct}
use Rattle.m3_model.specs.Invariant.Parcels.{ParcelOk, YieldsBeforeSaved, is_here_entry, no_yield}
use Rattle.m3_model.specs.Invariant.Scheduling.{EntryOk}
use Rattle.m3_model.specs.Invariant.Structure.{MachineStructure}
use Rattle.m3_refine.proofs.lists.Insertion.{push_none}
use Rattle.m3_refine.proofs.lists.Update.{is_link}
use Rattle.m3_refine.proofs.abstraction.ChangeResident.{current_home, current_activity}
use Rattle.m3_refine.proofs.abstraction.OtherContexts.{IsOther, none_on_link, none_at_entry}
use Rattle.m3_refine.proofs.abstraction.PushParcel.{longer_places, longer_sound, walks_elsewhere}
use Rattle.m3_refine.proofs.events.take.RouteRefines.{KnownActivity}

-- ---- behind no Saved of its activity

not_yield : (a b : ℕ) (qs : List Parcel) → (b == a) ≡ false → no_yield a qs ≡ true → no_yield a (qs ++ Yield b ∷ []) ≡ true
not_yield a b [] d e = grind (arith, d)
not_yield a b (Data x ∷ qs) d e = not_yield a b qs d e
not_yield a b (Save x ∷ qs) d e = not_yield a b qs d e
not_yield a b (Saved x c w f ∷ qs) d e = not_yield a b qs d e
not_yield a b (Restore x c xs ∷ qs) d e = not_yield a b qs d e
not_yield a b (Yield x ∷ qs) d e = let r = not_yield a b qs d in grind (arith, e, r)
not_yield a b (Closed g ∷ qs) d e = not_yield a b qs d e

yield_orderly : (a : ℕ) (qs : List Parcel) → Each (IsOther a) (flat_map contexts_in qs) → YieldsBeforeSaved qs → YieldsBeforeSaved (qs ++ Yield a ∷ [])
yield_orderly a [] e o = tt
yield_orderly a (Data x ∷ qs) e o = yield_orderly a qs e o
yield_orderly a (Save x ∷ qs) e o = yield_orderly a qs e o
yield_orderly a (Saved x c w f ∷ qs) e o = (not_yield c.act a qs (let d = e.0 in grind (arith, nat_tests, d)) o.0, yield_orderly a qs e.1 o.1)
yield_orderly a (Restore x c xs ∷ qs) e o = yield_orderly a qs e.1 o
yield_orderly a (Yield x ∷ qs) e o = yield_orderly a qs e o
yield_orderly a (Closed g ∷ qs) e o = yield_orderly a qs e o

-- ---- the frame

module _ (h : Site) (m : Machine) (t : ℕ) (low : 1 ≤ t) (ht : t < 16) (sound : MachineStructure h m) (c : Context) (here : (tile_at t m).current ≡ Some c) where
  abbrev pub yielding : Machine
  yielding = with_parcel t (0, Yield c.act) m

  in_tiles : t < length m.tiles
  in_tiles = subst (λ n. t < n) (sym sound.tiles) ht

  zero_low : 0 < 16
  zero_low = omega arith

  in_links : 16 * t + 0 < length m.links
  in_links = is_link m.links t 0 [] ht zero_low sound.links

  lives : (is_home h c.act ≡ true) × (tile_of h c.act ≡ t)
  lives = current_home h m t sound c here

  its : KnownActivity h m c.act
  its = current_activity h m t sound c here

  found : entry_of c.act m.kernel ≡ Some its.seat
  found = ap (λ a. entry_of a m.kernel) (sym its.key) ∙ its.its.seat

  seat_is : its.seat.act ≡ c.act
  seat_is = its.its.act ∙ its.key

  -- the kernel has it Placed or Leaving
  not_away : (w : EntryResidency) → Each (IsOther c.act) (residency_contexts w) → EntryOk h m.tiles its.seat w → (is_placed_entry w || is_leaving_entry w) ≡ true
  not_away Is_placed e o = refl
  not_away Is_leaving e o = refl
  not_away (Is_resting s) e o = absurd (let k = o.0 in let i = seat_is in let d = e.0 in grind (arith, nat_tests, k, i, d))
  not_away (Is_coming s) e o = absurd (let k = o.0 in let i = seat_is in let d = e.0 in grind (arith, nat_tests, k, i, d))

  its_entry : entry_of its.seat.act m.kernel ≡ Some its.seat
  its_entry = ap (λ a. entry_of a m.kernel) seat_is ∙ found

  pub stays_here : is_here_entry (entry_of c.act m.kernel) ≡ true
  stays_here =
      ap is_here_entry found
      ∙ not_away its.seat.seating (none_at_entry m t in_tiles c here sound.acts its.seat its_entry) (sound.seated.seats c.act its.seat found).0

  ok : ParcelOk h m.kernel m.tiles t 0 (Yield c.act)
  ok = (refl, sym lives.1, stays_here)

  packets_same : all_packets yielding ≡ all_packets m
  packets_same = ap (λ l. flat_map held_by m.kernel.seats ++ l) (push_none packets_in m.links (16 * t + 0) (Yield c.act) in_links refl)

  closed_same : all_closed yielding ≡ all_closed m
  closed_same = push_none closed_in m.links (16 * t + 0) (Yield c.act) in_links refl

  pub yielding_state : ideal_of yielding ≡ ideal_of m
  yielding_state =
      let contexts = push_none contexts_in m.links (16 * t + 0) (Yield c.act) in_links refl in
      λ k. record {
        memory = m.memory;
        contexts = sorted_by_act (flat_map tile_contexts m.tiles ++ (flat_map entry_contexts m.kernel.seats ++ contexts k));
        flights = sorted_by_name (packets_same k);
        kernel_next = m.kernel.next;
        grants = closed_from 1 (closed_same k) m.kernel.grants;
      }

  pub yielding_places : placement_of h yielding ≡ places_state.with_token t 0 (places_state.Yield c.act) (placement_of h m)
  yielding_places = longer_places h m t 0 ht zero_low (Yield c.act) sound.links

  pub yielding_sound : MachineStructure h yielding
  yielding_sound =
      longer_sound h m t 0 ht zero_low (Yield c.act) sound ok refl (λ a. refl)
      (λ z. yield_orderly c.act (link_at t 0 m) (none_on_link m t in_tiles c here sound.acts t 0) (sound.seated.orderly t ht))
      (walks_elsewhere h m t 0 ht zero_low (Yield c.act) sound low)
      (subst Distinct (sym packets_same) sound.names)
      (subst DistinctClosed (sym closed_same) sound.closed)
      (λ g e. sound.shut g (subst (λ l. is_in l g ≡ true) closed_same e))
