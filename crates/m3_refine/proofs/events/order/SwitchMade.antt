-- A switch that is made: one activity of the tile leaves, and another is to come.
use Rattle.std.proofs.Common.{◌≡◌, ℕ, ◌+◌, ◌*◌, ◌<◌, ◌≤◌, Bool, true, false, List, [], ◌∷◌, ◌++◌, Some, None, refl, sym, subst, ◌∙◌, ap, arith, set, length, map, Option}
use Rattle.std.specs.Prelude.{◌==◌, not, ◌&&◌, ◌||◌, is_some, filter}
use Rattle.std.proofs.lemmas.Bool.Decides.{nat_tests}
use Rattle.m3_base.specs.Lists.Counting.{one, how_many}
use Rattle.m3_base.specs.Ideal.State.{context_of, same_act}
use Rattle.m3_base.specs.Lists.EachElement.{Each}
use Rattle.m3_merge.proofs.MergedIsRun.{each_map}
use Rattle.m3_model.specs.Config.Site.{Home, Site, tile_of}
use Rattle.m3_model.specs.Parcel.{Save}
use Rattle.m3_model.specs.Kernel.State.{SavedActivity, Is_placed, Is_leaving, Is_resting, Is_coming, ActivityEntry, Kernel}
use Rattle.m3_model.specs.Config.KnownActivities.{is_home, is_named_context}
use Rattle.m3_model.specs.Tile.Step.{resident_of}
use Rattle.m3_model.specs.Kernel.Step.{entry_act, entry_of, with_residency, leave_ready, ready_at, is_placed_entry, is_leaving_entry, is_coming_entry, is_leaving_at, placed_at}
use Rattle.m3_model.specs.Machine.{Machine, tile_at, link_at, with_parcel}
use Rattle.m3_model.specs.Abstraction.{flat_map, tile_contexts, entry_contexts, residency_contexts, held_by, contexts_in, packets_in, closed_in, all_contexts, all_packets, all_closed, is_in, sorted_by_act, closed_from, ideal_of, actor_in, actor_by, current_act, placement_of}
use Rattle.m3_base.specs.Ideal.Flights.{sorted_by_name}
use Rattle.m3_model.specs.Invariant.Distinct.{DistinctClosed}
use Rattle.m3_base.specs.Ideal.FlightNames.{Distinct}
use Rattle.m3_base.specs.Ideal.State.{DistinctActs}
use Rattle.m3_model.specs.Invariant.Housing.{IsPresent}
use Rattle.m3_model.specs.Invariant.Scheduling.{has_home, is_placed_at, is_coming_at, is_leaving_of, EntryOk, HoldOk, saves_in_flight}
use Rattle.m3_model.specs.Invariant.LinkWalk.{act_of_entry, placed_on, CurrentAlongLink}
use Rattle.m3_model.specs.Invariant.Parcels.{is_here_entry, ParcelOk}
use Rattle.m3_model.specs.Invariant.Structure.{MachineStructure}
use Rattle.m3_refine.proofs.lists.Insertion.{push_none}
use Rattle.m3_refine.proofs.lists.Replacement.{around_replaced}
use Rattle.m3_refine.proofs.abstraction.CurrentAlongLink.{walks-save}
use Rattle.m3_refine.proofs.lists.Update.{is_link, links_either}
use Rattle.m3_refine.proofs.lists.PerLink.{push_length, push_each, push_leavings, push_orderly}
use Rattle.m3_refine.proofs.abstraction.PushParcel.{longer_places}
use Rattle.m3_refine.proofs.arrival.AnswerAndClosed.{home_tile}
use Rattle.m3_refine.proofs.abstraction.EntriesMatchActors.{SeatOf, order_replaced, placed_none, one-and}
use Rattle.m3_refine.proofs.abstraction.ReplaceEntry.{seat_then, seat_now, seat_counts, placed_still, parcel_kernel, actors_then}
use Rattle.m3_base.specs.Lists.Keyed as keyed
use Rattle.m3_base.specs.Placement.State as places_state

module _ (h : Site) (m : Machine) (sound : MachineStructure h m) (t : ℕ) (x b : ActivityEntry) (xh bh : Home) (xs : SeatOf h m.kernel x xh) (bs : SeatOf h m.kernel b bh) (z : SavedActivity)
    (rests : x.seating ≡ Is_resting z) (placed : b.seating ≡ Is_placed) (x_tile : tile_of h x.act ≡ t) (b_tile : tile_of h b.act ≡ t) (first : placed_at h t m.kernel.seats ≡ Some b) where
  abbrev comes : ActivityEntry
  comes = record x { seating = Is_coming z }

  abbrev leaves' : ActivityEntry
  leaves' = record b { seating = Is_leaving }

  abbrev seats1 : List ActivityEntry
  seats1 = keyed.with_replaced entry_act same_act (record b { seating = Is_leaving }) m.kernel.seats

  abbrev seats2 : List ActivityEntry
  seats2 = keyed.with_replaced entry_act same_act (record x { seating = Is_coming z }) (keyed.with_replaced entry_act same_act (record b { seating = Is_leaving }) m.kernel.seats)

  b_there : keyed.find entry_act same_act b.act m.kernel.seats ≡ Some b
  b_there = ap (λ n. keyed.find entry_act same_act n m.kernel.seats) bs.act ∙ bs.seat

  x_old : keyed.find entry_act same_act x.act m.kernel.seats ≡ Some x
  x_old = ap (λ n. keyed.find entry_act same_act n m.kernel.seats) xs.act ∙ xs.seat

  differ : (x.act == b.act) ≡ false
  differ = by_test (x.act == b.act) refl
    where
      by_test : (d : Bool) → (x.act == b.act) ≡ d → d ≡ false
      by_test false e = refl
      by_test true e =
          absurd (
          let k : x.act ≡ b.act = grind (arith, nat_tests, e) in
          let s : Some x ≡ Some b = sym x_old ∙ ap (λ n. keyed.find entry_act same_act n m.kernel.seats) k ∙ b_there in
          let q : x ≡ b = cc in
          let r : Is_resting z ≡ Is_placed = sym rests ∙ ap (λ w. w.seating) q ∙ placed in cc)

  x_there : keyed.find entry_act same_act x.act seats1 ≡ Some x
  x_there =
      seat_then m.kernel.seats b leaves' b_there refl (λ n o. n ≡ x.act → o ≡ Some x) x.act (λ d e. x_old) (λ d e. absurd (let k = differ in let w : (x.act == b.act) ≡ true = grind (arith, nat_tests, d) in cc)) refl

  zero_low : 0 < 16
  zero_low = omega arith

  b_known : is_home h b.act ≡ true
  b_known = ap (is_home h) bs.act ∙ ap is_some bs.home

  lives : (2 ≤ t) × (t < 16)
  lives = subst (λ n. (2 ≤ n) × (n < 16)) b_tile (home_tile h b.act sound.setup b_known)

  in_links : 16 * 0 + t < length m.links
  in_links = is_link m.links 0 t [] zero_low lives.1 sound.links

  abbrev kernel_then : Kernel
  kernel_then = leave_ready t x.act (with_residency (Is_coming z) x (with_residency Is_leaving b m.kernel))

  abbrev pub leaving : Machine
  leaving = with_parcel 0 (t, Save b.act) (record m { kernel = leave_ready t x.act (with_residency (Is_coming z) x (with_residency Is_leaving b m.kernel)) })

  -- two seats, one after the other
  two : (P : ℕ → Option ActivityEntry → Type 0) (a : ℕ) → ((a == b.act) ≡ false → P a (entry_of a m.kernel)) → (a ≡ b.act → P a (Some leaves')) → (a ≡ x.act → P a (Some comes)) → P a (keyed.find entry_act same_act a seats2)
  two P a have one' two' =
      seat_then seats1 x comes x_there refl P a (λ d. seat_then m.kernel.seats b leaves' b_there refl P a have one') two'

  alike : {Y : Type 0} (f : ActivityEntry → List Y) → f leaves' ≡ f b → f comes ≡ f x → flat_map f seats2 ≡ flat_map f m.kernel.seats
  alike f e k =
      let p = around_replaced entry_act same_act f x comes seats1 x_there in
      let q = around_replaced entry_act same_act f b leaves' m.kernel.seats b_there in
      p.there ∙ ap (λ l. p.front ++ (l ++ p.back)) k ∙ sym p.here ∙ q.there ∙ ap (λ l. q.front ++ (l ++ q.back)) e ∙ sym q.here

  contexts_same : all_contexts leaving ≡ all_contexts m
  contexts_same = (λ k. flat_map tile_contexts m.tiles ++ (alike entry_contexts (sym (ap residency_contexts placed)) (sym (ap residency_contexts rests)) k ++ push_none contexts_in m.links (16 * 0 + t) (Save b.act) in_links refl k))

  packets_same : all_packets leaving ≡ all_packets m
  packets_same = (λ k. alike held_by refl refl k ++ push_none packets_in m.links (16 * 0 + t) (Save b.act) in_links refl k)

  closed_same : all_closed leaving ≡ all_closed m
  closed_same = push_none closed_in m.links (16 * 0 + t) (Save b.act) in_links refl

  pub leaving_state : ideal_of leaving ≡ ideal_of m
  leaving_state =
      λ k. record {
        memory = m.memory;
        contexts = sorted_by_act (contexts_same k);
        flights = sorted_by_name (packets_same k);
        kernel_next = m.kernel.next;
        grants = closed_from 1 (closed_same k) m.kernel.grants;
      }

  -- ---- counts

  counts : (p : ActivityEntry → Bool) → how_many p seats2 + one (p x) + one (p b) ≡ how_many p m.kernel.seats + one (p comes) + one (p leaves')
  counts p = let e = seat_counts seats1 x comes x_there refl p in let f = seat_counts m.kernel.seats b leaves' b_there refl p in omega arith

  same_tiles : (u : ℕ) → one (tile_of h x.act == u) ≡ one (tile_of h b.act == u)
  same_tiles u = ap (λ n. one (n == u)) (x_tile ∙ sym b_tile)

  filled' : (u : ℕ) → how_many (is_placed_at h u) seats2 + how_many (is_coming_at h u) seats2 ≡ one (has_home u h.homes)
  filled' u =
      let p = counts (is_placed_at h u) in
      let q = counts (is_coming_at h u) in
      let f = sound.seated.filled u in
      let s = same_tiles u in
      let a : one (is_placed_at h u x) ≡ 0 = ap (λ w. one ((tile_of h x.act == u) && is_placed_entry w)) rests ∙ (one-and (tile_of h x.act == u)).1 in
      let b' : one (is_placed_at h u b) ≡ one (tile_of h b.act == u) = ap (λ w. one ((tile_of h b.act == u) && is_placed_entry w)) placed ∙ (one-and (tile_of h b.act == u)).0 in
      let c : one (is_coming_at h u x) ≡ 0 = ap (λ w. one ((tile_of h x.act == u) && is_coming_entry w)) rests ∙ (one-and (tile_of h x.act == u)).1 in
      let d : one (is_coming_at h u b) ≡ 0 = ap (λ w. one ((tile_of h b.act == u) && is_coming_entry w)) placed ∙ (one-and (tile_of h b.act == u)).1 in
      let e : one (is_placed_at h u comes) ≡ 0 = (one-and (tile_of h x.act == u)).1 in
      let g : one (is_placed_at h u leaves') ≡ 0 = (one-and (tile_of h b.act == u)).1 in
      let i : one (is_coming_at h u comes) ≡ one (tile_of h x.act == u) = (one-and (tile_of h x.act == u)).0 in
      let j : one (is_coming_at h u leaves') ≡ 0 = (one-and (tile_of h b.act == u)).1 in
      omega arith

  leaving' : (u : ℕ) → how_many (is_leaving_at h u) seats2 ≤ how_many (is_coming_at h u) seats2
  leaving' u =
      let p = counts (is_leaving_at h u) in
      let q = counts (is_coming_at h u) in
      let f = sound.seated.leaving u in
      let s = same_tiles u in
      let a : one (is_leaving_at h u x) ≡ 0 = ap (λ w. one ((tile_of h x.act == u) && is_leaving_entry w)) rests ∙ (one-and (tile_of h x.act == u)).1 in
      let b' : one (is_leaving_at h u b) ≡ 0 = ap (λ w. one ((tile_of h b.act == u) && is_leaving_entry w)) placed ∙ (one-and (tile_of h b.act == u)).1 in
      let c : one (is_coming_at h u x) ≡ 0 = ap (λ w. one ((tile_of h x.act == u) && is_coming_entry w)) rests ∙ (one-and (tile_of h x.act == u)).1 in
      let d : one (is_coming_at h u b) ≡ 0 = ap (λ w. one ((tile_of h b.act == u) && is_coming_entry w)) placed ∙ (one-and (tile_of h b.act == u)).1 in
      let e : one (is_leaving_at h u comes) ≡ 0 = (one-and (tile_of h x.act == u)).1 in
      let g : one (is_leaving_at h u leaves') ≡ one (tile_of h b.act == u) = (one-and (tile_of h b.act == u)).0 in
      let i : one (is_coming_at h u comes) ≡ one (tile_of h x.act == u) = (one-and (tile_of h x.act == u)).0 in
      let j : one (is_coming_at h u leaves') ≡ 0 = (one-and (tile_of h b.act == u)).1 in
      omega arith

  -- ---- who is Placed

  none_after : placed_on h t kernel_then ≡ None
  none_after =
      let p = counts (is_placed_at h t) in
      let f = sound.seated.filled t in
      let same : one (tile_of h b.act == t) ≡ 1 = ap one (let e = b_tile in let w : (tile_of h b.act == t) ≡ true = grind (arith, nat_tests, e) in w) in
      let b' : one (is_placed_at h t b) ≡ one (tile_of h b.act == t) = ap (λ w. one ((tile_of h b.act == t) && is_placed_entry w)) placed ∙ (one-and (tile_of h b.act == t)).0 in
      let e : one (is_placed_at h t comes) ≡ 0 = (one-and (tile_of h x.act == t)).1 in
      let g : one (is_placed_at h t leaves') ≡ 0 = (one-and (tile_of h b.act == t)).1 in
      ap act_of_entry (placed_none h t seats2 (at_most (has_home t h.homes) (how_many (is_placed_at h t) m.kernel.seats) (how_many (is_coming_at h t) m.kernel.seats) (how_many (is_placed_at h t) seats2) (one (is_placed_at h t x)) f (omega arith)))
    where
      at_most : (d : Bool) (i j k l : ℕ) → i + j ≡ one d → k + l + 1 ≡ i → k ≡ 0
      at_most true i j k l e f = omega arith
      at_most false i j k l e f = omega arith

  walks' : (v : ℕ) → 2 ≤ v → v < 16 → CurrentAlongLink (current_act (tile_at v m)) (link_at 0 v leaving) (placed_on h v kernel_then)
  walks' v low high =
      links_either m.links 0 t (link_at 0 t m ++ Save b.act ∷ []) zero_low lives.1 sound.links (λ k u qs. k ≡ 0 → CurrentAlongLink (current_act (tile_at u m)) qs (placed_on h u kernel_then)) 0 v high
      (λ d e. by_other (let w : (t == v) ≡ false = grind (arith, nat_tests, d) in w))
      (λ e d k. subst (λ u. CurrentAlongLink (current_act (tile_at u m)) (link_at 0 t m ++ Save b.act ∷ []) (placed_on h u kernel_then)) d now) refl
    where
      now : CurrentAlongLink (current_act (tile_at t m)) (link_at 0 t m ++ Save b.act ∷ []) (placed_on h t kernel_then)
      now =
          subst (λ o. CurrentAlongLink (current_act (tile_at t m)) (link_at 0 t m ++ Save b.act ∷ []) o) (sym none_after)
          (walks-save (current_act (tile_at t m)) (link_at 0 t m) b.act (subst (λ o. CurrentAlongLink (current_act (tile_at t m)) (link_at 0 t m) o) (ap act_of_entry first) (sound.seated.walks t lives.0 lives.1)))

      by_other : (t == v) ≡ false → CurrentAlongLink (current_act (tile_at v m)) (link_at 0 v m) (placed_on h v kernel_then)
      by_other d =
          let bt : (tile_of h b.act == v) ≡ false = ap (λ n. n == v) b_tile ∙ d in
          let xt : (tile_of h x.act == v) ≡ false = ap (λ n. n == v) x_tile ∙ d in
          subst (λ o. CurrentAlongLink (current_act (tile_at v m)) (link_at 0 v m) o)
          (sym (placed_still h v seats1 x comes x_there refl (ap (λ w. w && false) xt ∙ sym (ap (λ w. w && is_placed_entry x.seating) xt)) ∙ placed_still h v m.kernel.seats b leaves' b_there refl (ap (λ w. w && false) bt ∙ sym (ap (λ w. w && is_placed_entry b.seating) bt))))
          (sound.seated.walks v low high)

  -- ---- it is as sound

  x_fine : EntryOk h m.tiles x x.seating × Each (HoldOk h x.act) x.hold
  x_fine = sound.seated.seats x.act x x_old

  b_fine : EntryOk h m.tiles b b.seating × Each (HoldOk h b.act) b.hold
  b_fine = sound.seated.seats b.act b b_there

  seats' : (a : ℕ) (w : ActivityEntry) → entry_of a kernel_then ≡ Some w → EntryOk h m.tiles w w.seating × Each (HoldOk h w.act) w.hold
  seats' a w e =
      two (λ n o. o ≡ Some w → EntryOk h m.tiles w w.seating × Each (HoldOk h w.act) w.hold) a (λ d k. sound.seated.seats a w k)
      (λ d k. let q : leaves' ≡ w = cc in subst (λ w. EntryOk h m.tiles w w.seating × Each (HoldOk h w.act) w.hold) q (tt, b_fine.1))
      (λ d k. let q : comes ≡ w = cc in subst (λ w. EntryOk h m.tiles w w.seating × Each (HoldOk h w.act) w.hold) q (subst (EntryOk h m.tiles x) rests x_fine.0, x_fine.1)) e

  here_still : (a : ℕ) → is_here_entry (entry_of a m.kernel) ≡ true → is_here_entry (entry_of a kernel_then) ≡ true
  here_still a =
      two (λ n o. is_here_entry (entry_of n m.kernel) ≡ true → is_here_entry o ≡ true) a (λ d k. k) (λ d k. refl)
      (λ d k. absurd (let q = ap is_here_entry (ap (λ n. entry_of n m.kernel) d ∙ x_old) in let r : is_here_entry (Some x) ≡ false = ap (λ w. is_placed_entry w || is_leaving_entry w) rests in cc))

  departing' : (a : ℕ) → saves_in_flight a leaving.links ≡ one (is_leaving_of (entry_of a kernel_then))
  departing' a =
      let p = push_leavings m.links 0 t zero_low lives.1 sound.links (Save b.act) a in
      let s = sound.seated.departing a in
      two (λ n o. n ≡ a → saves_in_flight a leaving.links ≡ one (is_leaving_of o)) a
      (λ d e. let off : one (b.act == a) ≡ 0 = ap one (let w : (b.act == a) ≡ false = grind (arith, nat_tests, d) in w) in omega arith)
      (λ d e. let was : one (is_leaving_of (entry_of a m.kernel)) ≡ 0 = ap one (ap is_leaving_of (ap (λ n. entry_of n m.kernel) d ∙ b_there) ∙ ap is_leaving_entry placed) in
      let on' : one (b.act == a) ≡ 1 = ap one (let w : (b.act == a) ≡ true = grind (arith, nat_tests, d) in w) in omega arith)
      (λ d e. let was : one (is_leaving_of (entry_of a m.kernel)) ≡ 0 = ap one (ap is_leaving_of (ap (λ n. entry_of n m.kernel) d ∙ x_old) ∙ ap is_leaving_entry rests) in
      let k = differ in let off : one (b.act == a) ≡ 0 = ap one (let w : (b.act == a) ≡ false = grind (arith, nat_tests, d, k) in w) in omega arith) refl

  pub leaving_sound : MachineStructure h leaving
  leaving_sound =
      record {
        setup = sound.setup;
        tiles = sound.tiles;
        links = push_length m.links 0 t zero_low lives.1 sound.links (Save b.act);
        acts = subst DistinctActs (sym contexts_same) sound.acts;
        known = λ a k. subst (λ l. IsPresent (context_of a l)) (sym contexts_same) (sound.known a k);
        named = subst (Each (λ c. is_named_context h c ≡ true)) (sym contexts_same) sound.named;
        names = subst Distinct (sym packets_same) sound.names;
        housed = record { seats = order_replaced comes seats1 ∙ order_replaced leaves' m.kernel.seats ∙ sound.housed.seats; tiles = sound.housed.tiles; stays = sound.housed.stays; current = sound.housed.current };
        parcels = push_each m.links 0 t zero_low lives.1 sound.links (Save b.act) (ParcelOk h kernel_then m.tiles)
            (λ a d ha hd. each_map (ParcelOk h m.kernel m.tiles a d) (ParcelOk h kernel_then m.tiles a d) (parcel_kernel h m.kernel kernel_then m.tiles here_still a d) (link_at a d m) (sound.parcels a d ha hd))
            (refl, b_known, sym b_tile);
        seated = record {
          seats = seats';
          filled = filled';
          leaving = leaving';
          departing = departing';
          walks = walks';
          orderly = push_orderly m.links 0 t zero_low lives.1 sound.links (Save b.act) (λ a. refl) tt sound.seated.orderly;
        };
        closed = subst DistinctClosed (sym closed_same) sound.closed;
        shut = λ n k. sound.shut n (subst (λ l. is_in l n ≡ true) closed_same k);
        holders = sound.holders;
      }

  -- ---- the places

  abbrev m1 : Machine
  m1 = record m { kernel = with_residency Is_leaving b m.kernel }

  abbrev m2 : Machine
  m2 = record m { kernel = leave_ready t x.act (with_residency (Is_coming z) x (with_residency Is_leaving b m.kernel)) }

  seat1 : (v : Home) → (bh.act == v.act) ≡ false → entry_of v.act m1.kernel ≡ entry_of v.act m.kernel
  seat1 v d =
      seat_then m.kernel.seats b leaves' b_there refl (λ n o. n ≡ v.act → o ≡ keyed.find entry_act same_act n m.kernel.seats) v.act (λ k e. refl)
      (λ k e. absurd (let y = bs.act in let w : (bh.act == v.act) ≡ true = grind (arith, nat_tests, k, y) in cc)) refl

  seat2 : (v : Home) → (xh.act == v.act) ≡ false → entry_of v.act m2.kernel ≡ entry_of v.act m1.kernel
  seat2 v d =
      seat_then seats1 x comes x_there refl (λ n o. n ≡ v.act → o ≡ keyed.find entry_act same_act n seats1) v.act (λ k e. refl)
      (λ k e. absurd (let y = xs.act in let w : (xh.act == v.act) ≡ true = grind (arith, nat_tests, k, y) in cc)) refl

  leaving_actor : actor_in m1 bh ≡ record (actor_in m bh) { place = places_state.Leaving }
  leaving_actor =
      let st = resident_of bh.act (tile_at bh.tile m) in
      let now : entry_of bh.act m1.kernel ≡ Some leaves' = ap (λ n. entry_of n m1.kernel) (sym bs.act) ∙ seat_now m.kernel.seats b leaves' b_there refl in
      ap (λ o. actor_by bh o st) now ∙ ap (λ o. record (actor_by bh o st) { place = places_state.Leaving }) (sym bs.seat)

  coming_actor : actor_in m2 xh ≡ record (actor_in m xh) { place = places_state.Coming }
  coming_actor =
      let st = resident_of xh.act (tile_at xh.tile m) in
      let now : entry_of xh.act m2.kernel ≡ Some comes = ap (λ n. entry_of n m2.kernel) (sym xs.act) ∙ seat_now seats1 x comes x_there refl in
      ap (λ o. actor_by xh o st) now ∙ ap (λ o. record (actor_by xh o st) { place = places_state.Coming }) (sym xs.seat)

  pub leaving_places : placement_of h leaving
      ≡ places_state.leave_ready t xh.act (places_state.with_token 0 t (places_state.Save bh.act) (places_state.at_place places_state.Coming (actor_in m xh) (places_state.at_place places_state.Leaving (actor_in m bh) (placement_of h m))))
  leaving_places =
      let homes = sound.setup.homes in
      let a1 = actors_then h m m1 bh (record (actor_in m bh) { place = places_state.Leaving }) leaving_actor homes bs.home (λ v d. ap (λ o. actor_by v o (resident_of v.act (tile_at v.tile m))) (seat1 v d)) in
      let a2 = actors_then h m1 m2 xh (record (actor_in m xh) { place = places_state.Coming }) coming_actor homes xs.home (λ v d. ap (λ o. actor_by v o (resident_of v.act (tile_at v.tile m))) (seat2 v d)) in
      let actors : map (actor_in m2) h.homes ≡ keyed.with_replaced places_state.actor_act same_act (record (actor_in m xh) { place = places_state.Coming }) (keyed.with_replaced places_state.actor_act same_act (record (actor_in m bh) { place = places_state.Leaving }) (map (actor_in m) h.homes)) =
      sym (ap (keyed.with_replaced places_state.actor_act same_act (record (actor_in m xh) { place = places_state.Coming })) a1 ∙ a2) in
      longer_places h m2 0 t zero_low lives.1 (Save b.act) sound.links
      ∙ (λ i. places_state.with_token 0 t (places_state.Save (bs.act i)) (record (placement_of h m) { actors = actors i; ready = set m.kernel.ready t (filter (λ d. not (d == xs.act i)) (ready_at t m.kernel)) }))
