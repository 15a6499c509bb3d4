-- The kernel takes Saved: the activity rests, and the one that comes may come.
use Rattle.std.proofs.Common.{◌≡◌, ℕ, ◌+◌, ◌*◌, ◌<◌, ◌≤◌, Bool, true, false, cond, List, [], ◌∷◌, ◌++◌, Some, None, refl, sym, subst, ◌∙◌, ap, arith, set, get_or, length, map, Option}
use Rattle.std.specs.Prelude.{if◌then◌else◌, ◌==◌, not, ◌&&◌}
use Rattle.std.specs.List.{list_any}
use Rattle.std.proofs.lemmas.Bool.Decides.{nat_tests}
use Rattle.std.proofs.lemmas.List.{map-set}
use Rattle.m3_base.specs.declared.event.Event.{Event}
use Rattle.m3_base.specs.declared.event.Said.{Said}
use Rattle.m3_base.specs.Lists.Keyed as keyed
use Rattle.m3_base.specs.Lists.Counting.{one, how_many}
use Rattle.m3_base.specs.Ideal.Context.{Context}
use Rattle.m3_base.specs.Ideal.State.{same_act}
use Rattle.m3_base.specs.Placement.State as places_state
use Rattle.m3_base.specs.Placement.Take as places_take
use Rattle.m3_base.specs.Placement.State.{Placement, PlacedActivity, with_member}
use Rattle.m3_base.specs.Lists.EachElement.{Each}
use Rattle.m3_merge.proofs.MergedIsRun.{each_map}
use Rattle.m3_model.specs.Config.Site.{Home, Site, home_of, tile_of, has_program, home_has_program}
use Rattle.m3_model.specs.Parcel.{Parcel, Data, Save, Saved, Restore, Yield, Closed}
use Rattle.m3_model.specs.Kernel.State.{EntryResidency, Is_placed, Is_leaving, Is_resting, Is_coming, ActivityEntry, Kernel}
use Rattle.m3_model.specs.LocalStep.{LocalResult, dropped_result}
use Rattle.m3_model.specs.Config.KnownActivities.{is_named_context}
use Rattle.m3_model.specs.Tile.Step.{resident_of}
use Rattle.m3_model.specs.Kernel.Step.{entry_act, entry_of, with_residency, residency_of_saved, join_ready, is_placed_entry, is_leaving_entry, is_coming_entry, is_leaving_at, take_saved, then_restore}
use Rattle.m3_model.specs.Machine.{Machine, tile_at, link_at, with_link, with_parcels, machine_step, done_by, of_kernel}
use Rattle.m3_model.specs.Abstraction.{flat_map, flat_links, tile_contexts, entry_contexts, residency_contexts, held_by, contexts_in, packets_in, closed_in, all_contexts, all_packets, all_closed, is_in, ideal_of, link_token, actor_in, actor_by, current_act, placement_of}
use Rattle.m3_model.specs.Invariant.Distinct.{DistinctClosed}
use Rattle.m3_model.specs.Invariant.Housing.{resident_at}
use Rattle.m3_model.specs.Invariant.Parcels.{EndedFlagIs, is_here_entry, ParcelOk, YieldsBeforeSaved, no_yield}
use Rattle.m3_model.specs.Invariant.LinkWalk.{placed_on, CurrentAlongLink}
use Rattle.m3_model.specs.Invariant.Scheduling.{is_placed_at, is_coming_at, is_leaving_of, EntryOk, HoldOk, saves_in_flight, EntriesOk}
use Rattle.m3_model.specs.Invariant.Structure.{MachineStructure}
use Rattle.m3_model.specs.Refinement.{Refines}
use Rattle.m3_refine.proofs.events.take.RouteStep.{itself}
use Rattle.m3_refine.proofs.lists.Insertion.{Inserts, inserts_left, inserts_right, pop_none, pop_one}
use Rattle.m3_refine.proofs.lists.Replacement.{around_replaced}
use Rattle.m3_refine.proofs.abstraction.MoveContext.{seats_at, StaysIdeal}
use Rattle.m3_refine.proofs.abstraction.FindActor.{tokens, find_actor}
use Rattle.m3_refine.proofs.lists.Update.{is_link, links_set, links_either}
use Rattle.m3_refine.proofs.lists.PerLink.{pop_length, pop_front, pop_leavings, pop_orderly, moves_each, moves_known}
use Rattle.m3_refine.proofs.abstraction.EntriesMatchActors.{order_replaced, seat_tile, IsEntryOf, seat_entry}
use Rattle.m3_refine.proofs.abstraction.ReplaceEntry.{seat_then, seat_now, seat_counts, placed_still, actors_then}
use Rattle.m3_refine.proofs.events.take.RouteRefines.{KnownActivity, known_activity}
use Rattle.m3_refine.proofs.events.take.KernelTakesDataOrYield.{kernel_step, link_is}
use Rattle.m3_refine.proofs.events.take.RestoreGoesOut.{Restores, then_restores, next_one, next_same}
use Rattle.m3_base.specs.Ideal.FlightNames.{Distinct}

leaving_is : (o : Option ActivityEntry) → 1 ≤ one (is_leaving_of o) → (x : ActivityEntry) × (o ≡ Some x) × (x.seating ≡ Is_leaving)
leaving_is None e = absurd (omega arith)
leaving_is (Some x) e = by_seating x.seating refl e
  where
    by_seating : (w : EntryResidency) → x.seating ≡ w → 1 ≤ one (is_leaving_entry w) → (z : ActivityEntry) × (Some x ≡ Some z) × (z.seating ≡ Is_leaving)
    by_seating Is_leaving k e = (x, refl, k)
    by_seating Is_placed k e = absurd (omega arith)
    by_seating (Is_resting y) k e = absurd (omega arith)
    by_seating (Is_coming y) k e = absurd (omega arith)

-- ready lists, in one form
abbrev pub ready_then : Bool → ℕ → ℕ → List (List ℕ) → List (List ℕ)
ready_then b t a ready = cond b (set ready t (with_member a (get_or ready t []))) ready

pub ready_kernel : (b : Bool) (t a : ℕ) (k : Kernel) → join_ready b t a k ≡ record k { ready = ready_then b t a k.ready }
ready_kernel true t a k = refl
ready_kernel false t a k = refl

pub ready_places : (b : Bool) (t a : ℕ) (p : Placement) → places_state.join_ready b t a p ≡ record p { ready = ready_then b t a p.ready }
ready_places true t a p = refl
ready_places false t a p = refl

module _ (h : Site) (m : Machine) (from : ℕ) (hf : from < 16) (sound : MachineStructure h m) (c : Context) (waiting ended : Bool) (qs : List Parcel) (g : link_at from 0 m ≡ Saved c.act c waiting ended ∷ qs) where
  zero_low : 0 < 16
  zero_low = omega arith

  in_links : 16 * from + 0 < length m.links
  in_links = is_link m.links from 0 qs hf zero_low sound.links

  abbrev shorter : List (List Parcel)
  shorter = set m.links (16 * from + 0) qs

  ok : ParcelOk h m.kernel m.tiles from 0 (Saved c.act c waiting ended)
  ok = pop_front m.links from 0 hf zero_low sound.links (Saved c.act c waiting ended) qs g (ParcelOk h m.kernel m.tiles) sound.parcels

  popped : (a : ℕ) → saves_in_flight a shorter + one (c.act == a) ≡ saves_in_flight a m.links
  popped = pop_leavings m.links from 0 hf zero_low sound.links (Saved c.act c waiting ended) qs g

  leaves : (x : ActivityEntry) × (entry_of c.act m.kernel ≡ Some x) × (x.seating ≡ Is_leaving)
  leaves =
      let e : one (c.act == c.act) ≡ 1 = ap one (let z : (c.act == c.act) ≡ true = grind (arith, nat_tests) in z) in
      let p = popped c.act in
      let d = sound.seated.departing c.act in
      leaving_is (entry_of c.act m.kernel) (omega arith)

  pub its : KnownActivity h m c.act
  its = known_activity h m c.act sound ok.1

  x_is : its.seat ≡ leaves.0
  x_is = let a = ap (λ n. entry_of n m.kernel) (sym its.key) ∙ its.its.seat in let b = leaves.1 in cc

  leaving : its.seat.seating ≡ Is_leaving
  leaving = ap (λ x. x.seating) x_is ∙ leaves.2

  abbrev x : ActivityEntry
  x = its.seat

  abbrev y : Home
  y = its.home

  act_is : its.seat.act ≡ c.act
  act_is = its.its.act ∙ its.key

  there : IsEntryOf m.kernel its.seat
  there = seat_entry h m.kernel its.seat its.home its.its

  abbrev resting : ActivityEntry
  resting = record its.seat { seating = residency_of_saved c ended }

  abbrev ready : Bool
  ready = has_program h its.seat.act && (not waiting && not ended)

  abbrev kernel_then : Kernel
  kernel_then = record m.kernel { seats = keyed.with_replaced entry_act same_act (record its.seat { seating = residency_of_saved c ended }) m.kernel.seats; ready = ready_then (has_program h its.seat.act && (not waiting && not ended)) (tile_of h its.seat.act) its.seat.act m.kernel.ready }

  abbrev rested : Machine
  rested = record (with_link from 0 qs m) { kernel = kernel_then }

  both : StaysIdeal m rested
  both = seats_at m (16 * from + 0) in_links c waiting ended qs its.seat resting kernel_then g there leaving refl refl refl refl refl sound.acts

  moves : (base : List Context) × Inserts c base (all_contexts m) × Inserts c base (all_contexts rested)
  moves =
      let old = flat_links contexts_in m.links in
      let left = flat_links contexts_in shorter in
      let ts = flat_map tile_contexts m.tiles in
      let ss = flat_map entry_contexts m.kernel.seats in
      let us = flat_map entry_contexts kernel_then.seats in
      let r = around_replaced entry_act same_act entry_contexts its.seat resting m.kernel.seats there in
      let rest : Inserts c ss us =
      record { front = r.front; back = r.back; without = r.here ∙ ap (λ l. r.front ++ (residency_contexts l ++ r.back)) leaving; whole = r.there } in (
        ts ++ (ss ++ left),
        inserts_left ts c (ss ++ left) (ss ++ old) (inserts_left ss c left old (pop_one contexts_in m.links (16 * from + 0) (Saved c.act c waiting ended) qs c in_links g refl)),
        inserts_left ts c (ss ++ left) (us ++ left) (inserts_right left c ss us rest),
      )

  packets_same : all_packets rested ≡ all_packets m
  packets_same =
      let q = around_replaced entry_act same_act held_by its.seat resting m.kernel.seats there in
      (λ k. (q.there ∙ sym q.here) k ++ pop_none packets_in m.links (16 * from + 0) (Saved c.act c waiting ended) qs in_links g refl k)

  closed_same : all_closed rested ≡ all_closed m
  closed_same = pop_none closed_in m.links (16 * from + 0) (Saved c.act c waiting ended) qs in_links g refl

  counts : (p : ActivityEntry → Bool) → how_many p kernel_then.seats + one (p its.seat) ≡ how_many p m.kernel.seats + one (p resting)
  counts p = seat_counts m.kernel.seats its.seat resting there refl p

  none_and : (q : Bool) → one (q && false) ≡ 0
  none_and true = refl
  none_and false = refl

  -- the Yields of the one that left were taken before
  no_more : (a b : ℕ) (ps : List Parcel) → no_yield its.seat.act ps ≡ true → Each (ParcelOk h m.kernel m.tiles a b) ps → Each (ParcelOk h kernel_then m.tiles a b) ps
  no_more a b [] n e = tt
  no_more a b (Data p ∷ ps) n e = (e.0, no_more a b ps n e.1)
  no_more a b (Save d ∷ ps) n e = (e.0, no_more a b ps n e.1)
  no_more a b (Saved i d u v ∷ ps) n e = (e.0, no_more a b ps n e.1)
  no_more a b (Restore i d hs ∷ ps) n e = (e.0, no_more a b ps n e.1)
  no_more a b (Closed d ∷ ps) n e = (e.0, no_more a b ps n e.1)
  no_more a b (Yield d ∷ ps) n e =
      let other : (d == its.seat.act) ≡ false = grind (arith, n) in
      let rest : no_yield its.seat.act ps ≡ true = grind (arith, n) in
      ((e.0.0, e.0.1, seat_then m.kernel.seats its.seat resting there refl (λ n o. is_here_entry (keyed.find entry_act same_act n m.kernel.seats) ≡ true → (n == its.seat.act) ≡ false → is_here_entry o ≡ true) d (λ k q r. q) (λ k q r. absurd (let z : (d == its.seat.act) ≡ true = grind (arith, nat_tests, k) in cc)) e.0.2 other), no_more a b ps rest e.1)

  elsewhere : (a b : ℕ) → b < 16 → (16 * from + 0 == 16 * a + b) ≡ false → (q : Parcel) → ParcelOk h m.kernel m.tiles a b q → ParcelOk h kernel_then m.tiles a b q
  elsewhere a b hb d (Data p) o = o
  elsewhere a b hb d (Save n) o = o
  elsewhere a b hb d (Saved i n u v) o = o
  elsewhere a b hb d (Restore i n hs) o = o
  elsewhere a b hb d (Closed n) o = o
  elsewhere a b hb d (Yield n) o = (
    o.0,
    o.1,
    seat_then m.kernel.seats its.seat resting there refl (λ n o. is_here_entry (keyed.find entry_act same_act n m.kernel.seats) ≡ true → is_here_entry o ≡ true) n (λ k q. q)
        (λ k q. absurd (
        let one' : tile_of h n ≡ from = ap (tile_of h) (k ∙ act_is) ∙ sym ok.2 in
        let z : b ≡ 0 = o.0 in
        let w : a ≡ tile_of h n = o.1 in
        let same : (16 * from + 0 == 16 * a + b) ≡ true = grind (arith, nat_tests, one', z, w) in cc)) o.2,
  )

  parcels' : (a b : ℕ) → a < 16 → b < 16 → Each (ParcelOk h kernel_then m.tiles a b) (link_at a b rested)
  parcels' a b ha hb =
      links_either m.links from 0 qs hf zero_low sound.links (λ u v ps. Each (ParcelOk h kernel_then m.tiles u v) ps) a b hb
      (λ d. each_map (ParcelOk h m.kernel m.tiles a b) (ParcelOk h kernel_then m.tiles a b) (elsewhere a b hb d) (link_at a b m) (sound.parcels a b ha hb))
      (λ e d. subst (λ u. Each (ParcelOk h kernel_then m.tiles u b) qs) e (subst (λ v. Each (ParcelOk h kernel_then m.tiles from v) qs) d
      (no_more from 0 qs (ap (λ n. no_yield n qs) act_is ∙ (subst YieldsBeforeSaved g (sound.seated.orderly from hf)).0) (subst (Each (ParcelOk h m.kernel m.tiles from 0)) g (sound.parcels from 0 hf zero_low)).1)))

  walks' : (w : ℕ) → 2 ≤ w → w < 16 → CurrentAlongLink (current_act (tile_at w m)) (link_at 0 w rested) (placed_on h w kernel_then)
  walks' w low high =
      subst (λ o. CurrentAlongLink (current_act (tile_at w m)) (link_at 0 w rested) o)
      (sym (placed_still h w m.kernel.seats its.seat resting there refl (ap (λ z. (tile_of h its.seat.act == w) && is_placed_entry z) (sym leaving))))
      (links_set m.links from 0 qs hf zero_low sound.links (λ u v ps. 2 ≤ v → CurrentAlongLink (current_act (tile_at v m)) ps (placed_on h v m.kernel)) 0 w high (λ z. sound.seated.walks w low high) (λ e d z. absurd (omega arith)) low)

  old : EntryOk h m.tiles its.seat its.seat.seating × Each (HoldOk h its.seat.act) its.seat.hold
  old = sound.seated.seats its.seat.act its.seat there

  seats' : EntriesOk h m.tiles kernel_then
  seats' a z e =
      seat_then m.kernel.seats its.seat resting there refl (λ n o. o ≡ Some z → EntryOk h m.tiles z z.seating × Each (HoldOk h z.act) z.hold) a
      (λ d k. sound.seated.seats a z k)
      (λ d k. let q : resting ≡ z = cc in subst (λ z. EntryOk h m.tiles z z.seating × Each (HoldOk h z.act) z.hold) q ((sym act_is, subst (λ n. EndedFlagIs ended (resident_at h m.tiles n)) (sym act_is) ok.3), old.1)) e

  departing' : (a : ℕ) → saves_in_flight a shorter ≡ one (is_leaving_of (entry_of a kernel_then))
  departing' a =
      seat_then m.kernel.seats its.seat resting there refl (λ n o. saves_in_flight n shorter ≡ one (is_leaving_of o)) a
      (λ d. let off : one (c.act == a) ≡ 0 = ap one (let e = act_is in let z : (c.act == a) ≡ false = grind (arith, nat_tests, d, e) in z) in let p = popped a in let s = sound.seated.departing a in omega arith)
      (λ d. let e = act_is in let on : one (c.act == a) ≡ 1 = ap one (let z : (c.act == a) ≡ true = grind (arith, nat_tests, d, e) in z) in let p = popped a in let s = sound.seated.departing a in
      let was : one (is_leaving_of (entry_of a m.kernel)) ≡ 1 = ap one (ap is_leaving_of (ap (λ n. entry_of n m.kernel) d ∙ there) ∙ ap is_leaving_entry leaving) in omega arith)

  pub rested_sound : MachineStructure h rested
  rested_sound =
      record {
        setup = sound.setup;
        tiles = sound.tiles;
        links = pop_length m.links from 0 hf zero_low sound.links (Saved c.act c waiting ended) qs g;
        acts = both.1;
        known = λ a k. moves_known c moves.0 (all_contexts m) (all_contexts rested) moves.1 moves.2 a (sound.known a k);
        named = moves_each c moves.0 (all_contexts m) (all_contexts rested) moves.1 moves.2 (λ c. is_named_context h c ≡ true) sound.named;
        names = subst Distinct (sym packets_same) sound.names;
        housed = record { seats = order_replaced resting m.kernel.seats ∙ sound.housed.seats; tiles = sound.housed.tiles; stays = sound.housed.stays; current = sound.housed.current };
        parcels = parcels';
        seated = record {
          seats = seats';
          filled = λ t. let p = counts (is_placed_at h t) in let q = counts (is_coming_at h t) in let f = sound.seated.filled t in
              let a : one (is_placed_at h t its.seat) ≡ 0 = ap (λ z. one ((tile_of h its.seat.act == t) && is_placed_entry z)) leaving ∙ none_and (tile_of h its.seat.act == t) in
              let b : one (is_coming_at h t its.seat) ≡ 0 = ap (λ z. one ((tile_of h its.seat.act == t) && is_coming_entry z)) leaving ∙ none_and (tile_of h its.seat.act == t) in
              let d : one (is_placed_at h t resting) ≡ 0 = none_and (tile_of h its.seat.act == t) in
              let e : one (is_coming_at h t resting) ≡ 0 = none_and (tile_of h its.seat.act == t) in
              omega arith;
          leaving = λ t. let p = counts (is_leaving_at h t) in let q = counts (is_coming_at h t) in let f = sound.seated.leaving t in
              let b : one (is_coming_at h t its.seat) ≡ 0 = ap (λ z. one ((tile_of h its.seat.act == t) && is_coming_entry z)) leaving ∙ none_and (tile_of h its.seat.act == t) in
              let d : one (is_leaving_at h t resting) ≡ 0 = none_and (tile_of h its.seat.act == t) in
              let e : one (is_coming_at h t resting) ≡ 0 = none_and (tile_of h its.seat.act == t) in
              omega arith;
          departing = departing';
          walks = walks';
          orderly = pop_orderly m.links from 0 hf zero_low sound.links (Saved c.act c waiting ended) qs g sound.seated.orderly;
        };
        closed = subst DistinctClosed (sym closed_same) sound.closed;
        shut = λ n k. sound.shut n (subst (λ l. is_in l n ≡ true) closed_same k);
        holders = sound.holders;
      }

  -- ---- the places

  abbrev q : Placement
  q = places_state.with_link from 0 (map link_token qs) (placement_of h m)

  resting_actor : actor_in rested its.home ≡ record (actor_in m its.home) { place = places_state.Resting }
  resting_actor =
      let st = resident_of its.home.act (tile_at its.home.tile m) in
      let now : entry_of its.home.act kernel_then ≡ Some resting = ap (λ n. entry_of n kernel_then) (sym its.its.act) ∙ seat_now m.kernel.seats its.seat resting there refl in
      ap (λ o. actor_by its.home o st) now ∙ ap (λ o. record (actor_by its.home o st) { place = places_state.Resting }) (sym its.its.seat)

  other_actor : (v : Home) → (its.home.act == v.act) ≡ false → actor_in rested v ≡ actor_in m v
  other_actor v d =
      ap (λ o. actor_by v o (resident_of v.act (tile_at v.tile m)))
      (seat_then m.kernel.seats its.seat resting there refl (λ n o. n ≡ v.act → o ≡ keyed.find entry_act same_act n m.kernel.seats) v.act (λ k e. refl)
      (λ k e. absurd (let z = its.its.act in let w : (its.home.act == v.act) ≡ true = grind (arith, nat_tests, k, z) in cc)) refl)

  its_found : home_of its.home.act h ≡ Some its.home
  its_found = ap (λ n. home_of n h) its.key ∙ its.found

  program_is : has_program h its.seat.act ≡ its.home.has_program
  program_is = ap (λ a. home_has_program (home_of a h)) its.its.act ∙ ap home_has_program its_found

  pub rested_places : placement_of h rested
      ≡ places_state.join_ready (its.home.has_program && (not waiting && not ended)) its.home.tile its.home.act (places_state.at_place places_state.Resting (actor_in m its.home) q)
  rested_places =
      let actors = sym (actors_then h m rested its.home (record (actor_in m its.home) { place = places_state.Resting }) resting_actor sound.setup.homes its_found other_actor) in
      let links : tokens shorter ≡ set (tokens m.links) (16 * from + 0) (map link_token qs) = map-set (λ xs. map link_token xs) m.links (16 * from + 0) qs in
      let tile = seat_tile h m its.seat its.home its.its in
      (λ i. record (placement_of h m) { actors = actors i; links = links i; ready = ready_then (program_is i && (not waiting && not ended)) (tile i) (its.its.act i) m.kernel.ready })
      ∙ sym (ready_places (its.home.has_program && (not waiting && not ended)) its.home.tile its.home.act (places_state.at_place places_state.Resting (actor_in m its.home) q))

  -- ---- the event

  abbrev said : Said
  said = Said.Saved its.seat.act

  abbrev t : ℕ
  t = tile_of h its.seat.act

  rs : Restores h rested rested_sound (Said.Saved its.seat.act) (tile_of h its.seat.act) [] (next_one h rested rested_sound (Said.Saved its.seat.act) (tile_of h its.seat.act))
  rs = then_restores h rested rested_sound (Said.Saved its.seat.act) (tile_of h its.seat.act) []

  abbrev n : Machine
  n = with_parcels 0 rs.extra (record rested { kernel = rs.kernel })

  step : machine_step h m (Event.Take 0 from) None ≡ Some (record { outcome = record { made = None; said = said; restore = rs.restore }; machine = n })
  step =
      let left = with_link from 0 qs m in
      let deed : Kernel → LocalResult Kernel = λ k. then_restore h said t k [] in
      kernel_step h m from hf sound (Saved c.act c waiting ended) qs g
      ∙ ap (λ b. done_by 0 left (Some (of_kernel (cond b (take_saved h m.kernel c waiting ended (entry_of c.act m.kernel)) (dropped_result m.kernel))))) (itself c.act)
      ∙ ap (λ o. done_by 0 left (Some (of_kernel (take_saved h m.kernel c waiting ended o)))) (ap (λ a. entry_of a m.kernel) (sym its.key) ∙ its.its.seat)
      ∙ ap (λ w. done_by 0 left (Some (of_kernel (cond (is_leaving_entry w) (deed (join_ready ready t its.seat.act (with_residency (residency_of_saved c ended) its.seat m.kernel))) (dropped_result m.kernel))))) leaving
      ∙ ap (λ k. done_by 0 left (Some (of_kernel (deed k)))) (ready_kernel ready t its.seat.act (with_residency (residency_of_saved c ended) its.seat m.kernel))
      ∙ ap (λ d. done_by 0 left (Some (of_kernel d))) rs.did

  pub take_saved_refines : Refines h m (Event.Take 0 from) None (machine_step h m (Event.Take 0 from) None)
  take_saved_refines =
      let s = ideal_of m in
      let p1 = places_state.join_ready (its.home.has_program && (not waiting && not ended)) its.home.tile its.home.act (places_state.at_place places_state.Resting (actor_in m its.home) q) in
      let tile = seat_tile h m its.seat its.home its.its in
      let who = its.its.act in
      let look : Placement → ℕ → Option PlacedActivity = λ p u. if list_any (places_take.is_leaving_at u) p.actors then None else places_take.first_due u p.actors in
      subst (Refines h m (Event.Take 0 from) None) (sym step) (
        ap (λ l. places_take.take s (placement_of h m) 0 from l) (link_is h m from hf sound (Saved c.act c waiting ended) qs g)
            ∙ ap (places_take.saved_in s q waiting ended) (find_actor m c.act h.homes its.home its.found)
            ∙ ap (λ z. places_take.with_restore (Said.Saved its.home.act) s z (look z its.home.tile)) (sym rested_places)
            ∙ (λ i. places_take.with_restore (Said.Saved (sym who i)) s (placement_of h rested) (look (placement_of h rested) (sym tile i)))
            ∙ ap (places_take.with_restore said s (placement_of h rested)) (next_same h rested rested_sound said t)
            ∙ rs.places' s
            ∙ (λ i. Some (record { said = said; restore = rs.restore; state = sym (rs.state ∙ both.0) i; places = placement_of h n })),
        rs.sound',
      )
