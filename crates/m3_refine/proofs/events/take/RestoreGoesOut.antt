-- The kernel sends Restore for the activity that comes, where nobody leaves its tile and nothing is held for it.
use Rattle.std.proofs.Common.{◌≡◌, ℕ, ◌+◌, ◌*◌, ◌<◌, ◌≤◌, Bool, true, false, cond, List, [], ◌∷◌, ◌++◌, Some, None, refl, sym, subst, ◌∙◌, ap, arith, append-nil, set, get_or, length, map, Option}
use Rattle.std.specs.Prelude.{if◌then◌else◌, ◌==◌, ◌&&◌, is_some}
use Rattle.std.specs.List.{list_any}
use Rattle.std.proofs.lemmas.Bool.Decides.{nat_tests}
use Rattle.m3_base.specs.declared.packet.Packet.{Packet}
use Rattle.m3_base.specs.declared.event.Said.{Said}
use Rattle.m3_base.specs.Lists.Keyed as keyed
use Rattle.m3_base.specs.Lists.Counting.{one, how_many}
use Rattle.m3_base.specs.Ideal.Context.{Context}
use Rattle.m3_base.specs.Ideal.State.{State, same_act}
use Rattle.m3_base.specs.Placement.State as places_state
use Rattle.m3_base.specs.Placement.Take as places_take
use Rattle.m3_base.specs.Lists.EachElement.{Each}
use Rattle.m3_merge.proofs.MergedIsRun.{each_map}
use Rattle.m3_model.specs.Config.Site.{Home, Site, tile_of}
use Rattle.m3_model.specs.Parcel.{Parcel, Restore}
use Rattle.m3_model.specs.Kernel.State.{SavedActivity, EntryResidency, Is_placed, Is_leaving, Is_resting, Is_coming, ActivityEntry, Kernel}
use Rattle.m3_model.specs.Config.KnownActivities.{is_home, is_named_context}
use Rattle.m3_model.specs.Tile.Step.{resident_of}
use Rattle.m3_model.specs.Kernel.Step.{entry_act, entry_of, with_residency, with_yielded, is_placed_entry, is_leaving_entry, is_coming_entry, is_leaving_at, is_due_entry, first_due, with_restore, with_restore_of}
use Rattle.m3_model.specs.Machine.{Machine, tile_at, link_at, with_parcel, with_parcels}
use Rattle.m3_model.specs.Abstraction.{flat_map, flat_links, tile_contexts, entry_contexts, residency_contexts, held_by, contexts_in, packets_in, closed_in, all_contexts, all_packets, all_closed, is_in, ideal_of, actor_in, actor_by, current_act, placement_of}
use Rattle.m3_model.specs.Invariant.Distinct.{DistinctClosed}
use Rattle.m3_model.specs.Invariant.Scheduling.{has_home, is_placed_at, is_coming_at, is_leaving_of, EntryOk, HoldOk, saves_in_flight, EntriesOk}
use Rattle.m3_model.specs.Invariant.LinkWalk.{act_of_entry, placed_on, CurrentAlongLink}
use Rattle.m3_model.specs.Invariant.Parcels.{is_here_entry, ParcelOk}
use Rattle.m3_model.specs.Invariant.Structure.{MachineStructure}
use Rattle.m3_refine.proofs.lists.Insertion.{Inserts, inserts_left, inserts_right, push_none, push_one}
use Rattle.m3_refine.proofs.lists.Replacement.{around_replaced}
use Rattle.m3_refine.proofs.abstraction.MoveContext.{restore_out_at}
use Rattle.m3_refine.proofs.abstraction.CurrentAlongLink.{walks-restore}
use Rattle.m3_refine.proofs.lists.Update.{is_link, links_either}
use Rattle.m3_refine.proofs.lists.PerLink.{push_length, push_each, push_leavings, push_orderly, moves_each, moves_known, moves_apart}
use Rattle.m3_refine.proofs.abstraction.PushParcel.{longer_places}
use Rattle.m3_refine.proofs.arrival.AnswerAndClosed.{home_tile}
use Rattle.m3_refine.proofs.abstraction.EntriesMatchActors.{SeatOf, AreSeats, are_seats, actor_seat, seat_home, seat_tile, leaving_any, due_first, order_replaced, placed_one, placed_none, IsEntryOf, seat_entry, one-and}
use Rattle.m3_refine.proofs.abstraction.ReplaceEntry.{seat_then, seat_now, seat_counts, placed_still, parcel_kernel, actors_then, StaysHere}
use Rattle.m3_base.specs.Ideal.FlightNames.{Distinct}

-- ---- who comes

due_found : (h : Site) (k : Kernel) (t : ℕ) (xs : List ActivityEntry) (ys : List Home) (b : ActivityEntry) → AreSeats h k xs ys → first_due h t xs ≡ Some b → (y : Home) × SeatOf h k b y × (is_due_entry h t b ≡ true)
due_found h k t [] [] b s e = absurd (cc)
due_found h k t (x ∷ xs) (y ∷ ys) b s e = by_test (is_due_entry h t x) refl e (due_found h k t xs ys b s.1)
  where
    by_test : (d : Bool) → is_due_entry h t x ≡ d → cond d (Some x) (first_due h t xs) ≡ Some b → (first_due h t xs ≡ Some b → (y : Home) × SeatOf h k b y × (is_due_entry h t b ≡ true)) → (y : Home) × SeatOf h k b y × (is_due_entry h t b ≡ true)
    by_test true d e ih = let q : x ≡ b = cc in (y, subst (λ x. SeatOf h k x y) q s.0, subst (λ x. is_due_entry h t x ≡ true) q d)
    by_test false d e ih = ih e
due_found h k t [] (y ∷ ys) b s e = absurd s
due_found h k t (x ∷ xs) [] b s e = absurd s

coming_is : (w : EntryResidency) → is_coming_entry w ≡ true → (y : SavedActivity) × (w ≡ Is_coming y)
coming_is Is_placed e = absurd (cc)
coming_is Is_leaving e = absurd (cc)
coming_is (Is_resting y) e = absurd (cc)
coming_is (Is_coming y) e = (y, refl)

due_parts : (a b c : Bool) → (a && (b && c)) ≡ true → (a ≡ true) × (b ≡ true) × (c ≡ true)
due_parts true true true e = (refl, refl, refl)
due_parts true true false e = absurd (cc)
due_parts true false c e = absurd (cc)
due_parts false b c e = absurd (cc)

no_hold : (ps : List Packet) → (length ps == 0) ≡ true → ps ≡ []
no_hold [] e = refl
no_hold (p ∷ ps) e = absurd (let z : (length (p ∷ ps) == 0) ≡ false = grind (arith, nat_tests) in cc)

pub any_none : (p : ActivityEntry → Bool) (xs : List ActivityEntry) → list_any p xs ≡ false → how_many p xs ≡ 0
any_none p [] e = refl
any_none p (x ∷ xs) e = by_test (p x) refl (any_none p xs)
  where
    by_test : (b : Bool) → p x ≡ b → (list_any p xs ≡ false → how_many p xs ≡ 0) → one (p x) + how_many p xs ≡ 0
    by_test true d ih = absurd (let z : list_any p (x ∷ xs) ≡ true = grind (arith, d) in cc)
    by_test false d ih = let k : one (p x) ≡ 0 = ap one d in let r = ih (grind (arith, e, d)) in omega arith

module _ (h : Site) (m : Machine) (sound : MachineStructure h m) (t : ℕ) (b : ActivityEntry) (y : Home) (s : SeatOf h m.kernel b y) (w : SavedActivity) (comes : b.seating ≡ Is_coming w) (here' : tile_of h b.act ≡ t) (empty : b.hold ≡ [])
    (nobody : list_any (is_leaving_at h t) m.kernel.seats ≡ false) where
  abbrev placed : ActivityEntry
  placed = record b { seating = Is_placed }

  abbrev c : Context
  c = w.context

  there : IsEntryOf m.kernel b
  there = seat_entry h m.kernel b y s

  old : EntryOk h m.tiles b b.seating × Each (HoldOk h b.act) b.hold
  old = sound.seated.seats b.act b there

  act_is : w.context.act ≡ b.act
  act_is = (subst (EntryOk h m.tiles b) comes old.0).0

  known : is_home h b.act ≡ true
  known = ap (is_home h) s.act ∙ ap is_some s.home

  lives : (2 ≤ tile_of h b.act) × (tile_of h b.act < 16)
  lives = home_tile h b.act sound.setup known

  zero_low : 0 < 16
  zero_low = omega arith

  in_links : 16 * 0 + tile_of h b.act < length m.links
  in_links = is_link m.links 0 (tile_of h b.act) [] zero_low lives.1 sound.links

  abbrev pub kernel_then : Kernel
  kernel_then = with_yielded (tile_of h b.act) false (with_residency Is_placed b m.kernel)

  abbrev pub restoring : Machine
  restoring = with_parcel 0 (tile_of h b.act, Restore w.context.act w.context w.heard) (record m { kernel = with_yielded (tile_of h b.act) false (with_residency Is_placed b m.kernel) })

  pub restoring_state : ideal_of restoring ≡ ideal_of m
  restoring_state =
      restore_out_at m (16 * 0 + tile_of h b.act) in_links w.context w.heard b placed kernel_then there (ap residency_contexts comes) refl refl refl refl refl sound.acts

  moves : (base : List Context) × Inserts w.context base (all_contexts m) × Inserts w.context base (all_contexts restoring)
  moves =
      let L = flat_links contexts_in m.links in
      let N = flat_links contexts_in restoring.links in
      let ts = flat_map tile_contexts m.tiles in
      let ss = flat_map entry_contexts m.kernel.seats in
      let us = flat_map entry_contexts (keyed.with_replaced entry_act same_act placed m.kernel.seats) in
      let r = around_replaced entry_act same_act entry_contexts b placed m.kernel.seats there in
      let leaves : Inserts w.context us ss =
      record { front = r.front; back = r.back; without = r.there; whole = r.here ∙ ap (λ z. r.front ++ (residency_contexts z ++ r.back)) comes } in (
        ts ++ (us ++ L),
        inserts_left ts w.context (us ++ L) (ss ++ L) (inserts_right L w.context us ss leaves),
        inserts_left ts w.context (us ++ L) (us ++ N) (inserts_left us w.context L N (push_one contexts_in m.links (16 * 0 + tile_of h b.act) (Restore w.context.act w.context w.heard) w.context in_links refl)),
      )

  packets_same : all_packets restoring ≡ all_packets m
  packets_same =
      let q = around_replaced entry_act same_act held_by b placed m.kernel.seats there in
      (λ k. (q.there ∙ sym q.here) k ++ push_none packets_in m.links (16 * 0 + tile_of h b.act) (Restore w.context.act w.context w.heard) in_links refl k)

  closed_same : all_closed restoring ≡ all_closed m
  closed_same = push_none closed_in m.links (16 * 0 + tile_of h b.act) (Restore w.context.act w.context w.heard) in_links refl

  -- ---- counts

  was_coming : (u : ℕ) → one (is_coming_at h u b) ≡ one (tile_of h b.act == u)
  was_coming u = ap (λ z. one ((tile_of h b.act == u) && is_coming_entry z)) comes ∙ (one-and (tile_of h b.act == u)).0

  was_placed : (u : ℕ) → one (is_placed_at h u b) ≡ 0
  was_placed u = ap (λ z. one ((tile_of h b.act == u) && is_placed_entry z)) comes ∙ (one-and (tile_of h b.act == u)).1

  was_leaving : (u : ℕ) → one (is_leaving_at h u b) ≡ 0
  was_leaving u = ap (λ z. one ((tile_of h b.act == u) && is_leaving_entry z)) comes ∙ (one-and (tile_of h b.act == u)).1

  counts : (p : ActivityEntry → Bool) → how_many p kernel_then.seats + one (p b) ≡ how_many p m.kernel.seats + one (p placed)
  counts p = seat_counts m.kernel.seats b placed there refl p

  filled' : (u : ℕ) → how_many (is_placed_at h u) kernel_then.seats + how_many (is_coming_at h u) kernel_then.seats ≡ one (has_home u h.homes)
  filled' u =
      let p = counts (is_placed_at h u) in
      let q = counts (is_coming_at h u) in
      let f = sound.seated.filled u in
      let a = was_coming u in
      let d = was_placed u in
      let e = (one-and (tile_of h b.act == u)).0 in
      let g = (one-and (tile_of h b.act == u)).1 in
      omega arith

  leaving' : (u : ℕ) → how_many (is_leaving_at h u) kernel_then.seats ≤ how_many (is_coming_at h u) kernel_then.seats
  leaving' u = by_tile (t == u) refl
    where
      p : how_many (is_leaving_at h u) kernel_then.seats + one (is_leaving_at h u b) ≡ how_many (is_leaving_at h u) m.kernel.seats + one (is_leaving_at h u placed)
      p = counts (is_leaving_at h u)

      q : how_many (is_coming_at h u) kernel_then.seats + one (is_coming_at h u b) ≡ how_many (is_coming_at h u) m.kernel.seats + one (is_coming_at h u placed)
      q = counts (is_coming_at h u)

      z : one (is_leaving_at h u placed) ≡ 0
      z = (one-and (tile_of h b.act == u)).1

      by_tile : (d : Bool) → (t == u) ≡ d → how_many (is_leaving_at h u) kernel_then.seats ≤ how_many (is_coming_at h u) kernel_then.seats
      by_tile true d =
          let k : t ≡ u = grind (arith, nat_tests, d) in
          let none : how_many (is_leaving_at h u) m.kernel.seats ≡ 0 = subst (λ v. how_many (is_leaving_at h v) m.kernel.seats ≡ 0) k (any_none (is_leaving_at h t) m.kernel.seats nobody) in
          let x = p in let y = z in let v = was_leaving u in omega arith
      by_tile false d =
          let off : one (tile_of h b.act == u) ≡ 0 = ap one (ap (λ n. n == u) here' ∙ d) in
          let a = was_coming u in let x = p in let y = z in let v = was_leaving u in let i = q in let s = sound.seated.leaving u in omega arith

  -- ---- who is Placed

  at_most : (d : Bool) (i j : ℕ) → i + j ≡ one d → 1 ≤ j → i ≡ 0
  at_most true i j e k = omega arith
  at_most false i j e k = omega arith

  one_most : (d : Bool) (i j : ℕ) → i + j ≡ one d → i ≤ 1
  one_most true i j e = omega arith
  one_most false i j e = omega arith

  same_tile : (n : ℕ) → (n == n) ≡ true
  same_tile n = grind (arith, nat_tests)

  none_before : placed_on h (tile_of h b.act) m.kernel ≡ None
  none_before =
      let u = tile_of h b.act in
      let q = counts (is_coming_at h u) in
      let a : one (is_coming_at h u b) ≡ 1 = was_coming u ∙ ap one (same_tile u) in
      let z : one (is_coming_at h u placed) ≡ 0 = (one-and (tile_of h b.act == u)).1 in
      let some : 1 ≤ how_many (is_coming_at h u) m.kernel.seats = omega arith in
      ap act_of_entry (placed_none h u m.kernel.seats (at_most (has_home u h.homes) (how_many (is_placed_at h u) m.kernel.seats) (how_many (is_coming_at h u) m.kernel.seats) (sound.seated.filled u) some))

  one_after : placed_on h (tile_of h b.act) kernel_then ≡ Some b.act
  one_after =
      let u = tile_of h b.act in
      let is : is_placed_at h u placed ≡ true = ap (λ d. d && true) (same_tile u) in
      ap act_of_entry (placed_one h u b.act kernel_then.seats placed (one_most (has_home u h.homes) (how_many (is_placed_at h u) kernel_then.seats) (how_many (is_coming_at h u) kernel_then.seats) (filled' u)) (seat_now m.kernel.seats b placed there refl) is)

  walks' : (v : ℕ) → 2 ≤ v → v < 16 → CurrentAlongLink (current_act (tile_at v m)) (link_at 0 v restoring) (placed_on h v kernel_then)
  walks' v low high =
      links_either m.links 0 (tile_of h b.act) (link_at 0 (tile_of h b.act) m ++ Restore w.context.act w.context w.heard ∷ []) zero_low lives.1 sound.links
      (λ x u qs. x ≡ 0 → CurrentAlongLink (current_act (tile_at u m)) qs (placed_on h u kernel_then)) 0 v high
      (λ d e. by_other (let z : (tile_of h b.act == v) ≡ false = grind (arith, nat_tests, d) in z))
      (λ e d z. subst (λ u. CurrentAlongLink (current_act (tile_at u m)) (link_at 0 (tile_of h b.act) m ++ Restore w.context.act w.context w.heard ∷ []) (placed_on h u kernel_then)) d now) refl
    where
      now : CurrentAlongLink (current_act (tile_at (tile_of h b.act) m)) (link_at 0 (tile_of h b.act) m ++ Restore w.context.act w.context w.heard ∷ []) (placed_on h (tile_of h b.act) kernel_then)
      now =
          subst (λ o. CurrentAlongLink (current_act (tile_at (tile_of h b.act) m)) (link_at 0 (tile_of h b.act) m ++ Restore w.context.act w.context w.heard ∷ []) o) (ap (λ n. Some n) act_is ∙ sym one_after)
          (walks-restore (current_act (tile_at (tile_of h b.act) m)) (link_at 0 (tile_of h b.act) m) w.context w.heard
          (subst (λ o. CurrentAlongLink (current_act (tile_at (tile_of h b.act) m)) (link_at 0 (tile_of h b.act) m) o) none_before (sound.seated.walks (tile_of h b.act) lives.0 lives.1)))

      by_other : (tile_of h b.act == v) ≡ false → CurrentAlongLink (current_act (tile_at v m)) (get_or m.links (16 * 0 + v) []) (placed_on h v kernel_then)
      by_other d =
          subst (λ o. CurrentAlongLink (current_act (tile_at v m)) (link_at 0 v m) o)
          (sym (placed_still h v m.kernel.seats b placed there refl (ap (λ z. z && true) d ∙ sym (ap (λ z. z && is_placed_entry b.seating) d)))) (sound.seated.walks v low high)

  -- ---- it is as sound

  seats' : EntriesOk h m.tiles kernel_then
  seats' a z e =
      seat_then m.kernel.seats b placed there refl (λ n o. o ≡ Some z → EntryOk h m.tiles z z.seating × Each (HoldOk h z.act) z.hold) a
      (λ d k. sound.seated.seats a z k)
      (λ d k. let q : placed ≡ z = cc in subst (λ z. EntryOk h m.tiles z z.seating × Each (HoldOk h z.act) z.hold) q (empty, old.1)) e

  leaving_still : (a : ℕ) → is_leaving_of (entry_of a kernel_then) ≡ is_leaving_of (entry_of a m.kernel)
  leaving_still a =
      seat_then m.kernel.seats b placed there refl (λ n o. is_leaving_of o ≡ is_leaving_of (keyed.find entry_act same_act n m.kernel.seats)) a (λ d. refl)
      (λ d. sym (ap is_leaving_of (ap (λ n. keyed.find entry_act same_act n m.kernel.seats) d ∙ there) ∙ ap is_leaving_entry comes))

  here_still : StaysHere m.kernel kernel_then
  here_still a =
      seat_then m.kernel.seats b placed there refl (λ n o. is_here_entry (keyed.find entry_act same_act n m.kernel.seats) ≡ true → is_here_entry o ≡ true) a (λ d k. k) (λ d k. refl)

  pub restoring_sound : MachineStructure h restoring
  restoring_sound =
      record {
        setup = sound.setup;
        tiles = sound.tiles;
        links = push_length m.links 0 (tile_of h b.act) zero_low lives.1 sound.links (Restore w.context.act w.context w.heard);
        acts = moves_apart w.context moves.0 (all_contexts m) (all_contexts restoring) moves.1 moves.2 sound.acts;
        known = λ a k. moves_known w.context moves.0 (all_contexts m) (all_contexts restoring) moves.1 moves.2 a (sound.known a k);
        named = moves_each w.context moves.0 (all_contexts m) (all_contexts restoring) moves.1 moves.2 (λ c. is_named_context h c ≡ true) sound.named;
        names = subst Distinct (sym packets_same) sound.names;
        housed = record { seats = order_replaced placed m.kernel.seats ∙ sound.housed.seats; tiles = sound.housed.tiles; stays = sound.housed.stays; current = sound.housed.current };
        parcels = push_each m.links 0 (tile_of h b.act) zero_low lives.1 sound.links (Restore w.context.act w.context w.heard) (ParcelOk h kernel_then m.tiles)
            (λ a d ha hd. each_map (ParcelOk h m.kernel m.tiles a d) (ParcelOk h kernel_then m.tiles a d) (parcel_kernel h m.kernel kernel_then m.tiles here_still a d) (link_at a d m) (sound.parcels a d ha hd))
            (refl, ap (is_home h) act_is ∙ known, ap (tile_of h) (sym act_is), refl);
        seated = record {
          seats = seats';
          filled = filled';
          leaving = leaving';
          departing = λ a. push_leavings m.links 0 (tile_of h b.act) zero_low lives.1 sound.links (Restore w.context.act w.context w.heard) a ∙ (let s = sound.seated.departing a in let q = ap one (leaving_still a) in let z : saves_in_flight a m.links + 0 ≡ one (is_leaving_of (entry_of a kernel_then)) = omega arith in z);
          walks = walks';
          orderly = push_orderly m.links 0 (tile_of h b.act) zero_low lives.1 sound.links (Restore w.context.act w.context w.heard) (λ a. refl) tt sound.seated.orderly;
        };
        closed = subst DistinctClosed (sym closed_same) sound.closed;
        shut = λ x k. sound.shut x (subst (λ l. is_in l x ≡ true) closed_same k);
        holders = sound.holders;
      }

  -- ---- the places

  placed_actor : actor_in restoring y ≡ record (actor_in m y) { place = places_state.Placed }
  placed_actor =
      let st = resident_of y.act (tile_at y.tile m) in
      let now : entry_of y.act kernel_then ≡ Some placed = ap (λ n. entry_of n kernel_then) (sym s.act) ∙ seat_now m.kernel.seats b placed there refl in
      ap (λ o. actor_by y o st) now ∙ ap (λ o. record (actor_by y o st) { place = places_state.Placed }) (sym s.seat)

  other_actor : (v : Home) → (y.act == v.act) ≡ false → actor_in restoring v ≡ actor_in m v
  other_actor v d =
      ap (λ o. actor_by v o (resident_of v.act (tile_at v.tile m)))
      (seat_then m.kernel.seats b placed there refl (λ n o. n ≡ v.act → o ≡ keyed.find entry_act same_act n m.kernel.seats) v.act (λ k e. refl)
      (λ k e. absurd (let z = s.act in let q : (y.act == v.act) ≡ true = grind (arith, nat_tests, k, z) in cc)) refl)

  pub restoring_places : placement_of h restoring
      ≡ places_state.with_yielded y.tile false (places_state.with_token 0 y.tile (places_state.Restore y.act) (places_state.at_place places_state.Placed (actor_in m y) (placement_of h m)))
  restoring_places =
      let k1 : Machine = record m { kernel = kernel_then } in
      let actors = sym (actors_then h m restoring y (record (actor_in m y) { place = places_state.Placed }) placed_actor sound.setup.homes s.home other_actor) in
      let tile : tile_of h b.act ≡ y.tile = seat_tile h m b y s in
      let who : w.context.act ≡ y.act = act_is ∙ s.act in
      longer_places h k1 0 (tile_of h b.act) zero_low lives.1 (Restore w.context.act w.context w.heard) sound.links
      ∙ (λ i. places_state.with_token 0 (tile_of h b.act) (places_state.Restore (who i)) (record (placement_of h m) { actors = actors i; yielded = set m.kernel.yielded (tile_of h b.act) false }))
      ∙ (λ i. places_state.with_token 0 (tile i) (places_state.Restore y.act) (record (placement_of h m) { actors = keyed.with_replaced places_state.actor_act same_act (record (actor_in m y) { place = places_state.Placed }) (map (actor_in m) h.homes); yielded = set m.kernel.yielded (tile i) false }))

-- ---- where somebody may come

module _ (h : Site) (m : Machine) (sound : MachineStructure h m) (said : Said) (t : ℕ) where
  -- what the kernel does then, after these parcels went out
  pub record Restores (out : List (ℕ × Parcel)) (o : Option ActivityEntry) : Type 0 where
    pub extra : List (ℕ × Parcel)
    pub kernel : Kernel
    pub restore : Option ℕ
    pub did : with_restore h said t m.kernel out o ≡ record { outcome = record { made = None; said = said; restore = restore }; part = kernel; out = out ++ extra }
    pub sound' : MachineStructure h (with_parcels 0 extra (record m { kernel = kernel }))
    pub state : ideal_of (with_parcels 0 extra (record m { kernel = kernel })) ≡ ideal_of m
    pub places' : (s : State) → places_take.with_restore said s (placement_of h m) (actor_seat h m o)
        ≡ Some (record { said = said; restore = restore; state = s; places = placement_of h (with_parcels 0 extra (record m { kernel = kernel })) })

  restores_by : (out : List (ℕ × Parcel)) (o : Option ActivityEntry) → ((b : ActivityEntry) → o ≡ Some b → (y : Home) × SeatOf h m.kernel b y × (is_due_entry h t b ≡ true)) → list_any (is_leaving_at h t) m.kernel.seats ≡ false → Restores out o
  restores_by out None k e =
      record {
        extra = [];
        kernel = m.kernel;
        restore = None;
        did = λ i. record { outcome = record { made = None; said = said; restore = None }; part = m.kernel; out = sym (append-nil out) i };
        sound' = sound;
        state = refl;
        places' = λ s. refl;
      }
  restores_by out (Some b) k e =
      let f = k b refl in
      let y = f.0 in
      let parts = due_parts (tile_of h b.act == t) (is_coming_entry b.seating) (length b.hold == 0) f.2 in
      let w = coming_is b.seating parts.1 in
      let tile : tile_of h b.act ≡ t = (let z = parts.0 in grind (arith, nat_tests, z)) in
      let empty = no_hold b.hold parts.2 in
      record {
        extra = (tile_of h b.act, Restore w.0.context.act w.0.context w.0.heard) ∷ [];
        kernel = kernel_then h m sound t b y f.1 w.0 w.1 tile empty e;
        restore = Some b.act;
        did = ap (with_restore_of h said t m.kernel out b) w.1;
        sound' = restoring_sound h m sound t b y f.1 w.0 w.1 tile empty e;
        state = restoring_state h m sound t b y f.1 w.0 w.1 tile empty e;
        places' = λ s.
            ap (places_take.with_restore said s (placement_of h m)) (seat_home h m b y f.1)
            ∙ (λ i. Some (record { said = said; restore = Some (sym f.1.act i); state = s; places = sym (restoring_places h m sound t b y f.1 w.0 w.1 tile empty e) i }));
      }

  then_by : (out : List (ℕ × Parcel)) (d : Bool) → list_any (is_leaving_at h t) m.kernel.seats ≡ d → (o : Option ActivityEntry) → first_due h t m.kernel.seats ≡ o → Restores out (if d then None else o)
  then_by out true e o f =
      record {
        extra = [];
        kernel = m.kernel;
        restore = None;
        did = λ i. record { outcome = record { made = None; said = said; restore = None }; part = m.kernel; out = sym (append-nil out) i };
        sound' = sound;
        state = refl;
        places' = λ s. refl;
      }
  then_by out false e o f =
      restores_by out o (λ b k. due_found h m.kernel t m.kernel.seats h.homes b (are_seats h m.kernel sound.housed.seats sound.setup.homes) (f ∙ k)) e

  -- the one that comes, or nobody
  abbrev pub next_one : Option ActivityEntry
  next_one = if list_any (is_leaving_at h t) m.kernel.seats then None else first_due h t m.kernel.seats

  pub then_restores : (out : List (ℕ × Parcel)) → Restores out next_one
  then_restores out = then_by out (list_any (is_leaving_at h t) m.kernel.seats) refl (first_due h t m.kernel.seats) refl

  -- the places look for the same one
  pub next_same : (if list_any (places_take.is_leaving_at t) (placement_of h m).actors then None else places_take.first_due t (placement_of h m).actors) ≡ actor_seat h m next_one
  next_same =
      let are = are_seats h m.kernel sound.housed.seats sound.setup.homes in
      ap (λ b. if b then None else places_take.first_due t (map (actor_in m) h.homes)) (leaving_any h m t m.kernel.seats h.homes are)
      ∙ ap (λ o. if list_any (is_leaving_at h t) m.kernel.seats then None else o) (due_first h m t m.kernel.seats h.homes are)
      ∙ by_test (list_any (is_leaving_at h t) m.kernel.seats)
    where
      by_test : (b : Bool) → (if b then None else actor_seat h m (first_due h t m.kernel.seats)) ≡ actor_seat h m (if b then None else first_due h t m.kernel.seats)
      by_test true = refl
      by_test false = refl
