-- A parcel joins the back of a link: a packet, or the Closed of a grant.
use Rattle.std.proofs.Common.{◌≡◌, ℕ, ◌+◌, ◌*◌, ◌<◌, ◌≤◌, Bool, true, false, List, [], ◌∷◌, ◌++◌, None, refl, sym, subst, ◌∙◌, ap, arith, get_or, length, map, ◌⊎◌, inl, inr}
use Rattle.std.specs.Prelude.{◌==◌}
use Rattle.std.proofs.lemmas.Bool.Decides.{nat_tests}
use Rattle.m3_base.specs.declared.ids.FlightId.{FlightId}
use Rattle.m3_base.specs.declared.packet.Packet.{Packet}
use Rattle.m3_base.specs.Lists.Counting.{one, how_many}
use Rattle.m3_base.specs.Ideal.Flights.{name_of, same_name, flight, new_flight, sorted_by_name}
use Rattle.m3_base.specs.Ideal.State.{context_of, grant_in, DistinctActs}
use Rattle.m3_base.specs.Placement.State as places_state
use Rattle.m3_base.proofs.FlightNames.{same_name-turned}
use Rattle.m3_base.specs.Lists.EachElement.{Each}
use Rattle.m3_merge.proofs.MergedIsRun.{each_append}
use Rattle.m3_model.specs.Config.Site.{Site}
use Rattle.m3_model.specs.Parcel.{Parcel, Data, Save, Saved, Restore, Yield, Closed}
use Rattle.m3_model.specs.Config.KnownActivities.{is_named_context}
use Rattle.m3_model.specs.Machine.{Machine, tile_at, link_at, with_parcel}
use Rattle.m3_model.specs.Abstraction.{flat_map, flat_links, tile_contexts, entry_contexts, held_by, contexts_in, packets_in, closed_in, all_contexts, all_packets, all_closed, sorted_by_act, closed_from, is_in, ideal_of, link_token, current_act, actor_in, placement_of}
use Rattle.m3_model.specs.Invariant.Distinct.{DistinctClosed}
use Rattle.m3_model.specs.Invariant.Structure.{CloseWasSent, MachineStructure}
use Rattle.m3_model.specs.Invariant.LinkWalk.{CurrentAlongLink, placed_on}
use Rattle.m3_model.specs.Invariant.Housing.{IsPresent}
use Rattle.m3_model.specs.Invariant.Parcels.{ParcelOk, YieldsBeforeSaved, no_yield}
use Rattle.m3_model.specs.Invariant.Scheduling.{is_save_of, saves_in_flight}
use Rattle.m3_refine.proofs.lists.Insertion.{Inserts, inserts_left, push_none, push_one}
use Rattle.m3_refine.proofs.abstraction.MoveWithinMachine.{by_name-inserts}
use Rattle.m3_refine.proofs.abstraction.FindActor.{pushed_tokens}
use Rattle.m3_refine.proofs.lists.Update.{links_set, is_link}
use Rattle.m3_base.specs.Ideal.FlightNames.{Distinct}
use Rattle.std.proofs.lemmas.List.{length-set}
use Rattle.m3_base.proofs.Counting.{total-set, how_many-append}

absent_more : (n : FlightId) (f : List Packet) (p : Packet) (b : List Packet) → same_name n (name_of p) ≡ false → flight n (f ++ b) ≡ None → flight n (f ++ p ∷ b) ≡ None
absent_more n [] p b d h = grind (arith, h, d)
absent_more n (x ∷ f) p b d h = grind (arith, h, d, absent_more n f p b d)

absent_rest : (n : FlightId) (x : Packet) (xs : List Packet) → flight n (x ∷ xs) ≡ None → flight n xs ≡ None
absent_rest n x xs h = grind (arith, h)

absent_other : (n : FlightId) (x : Packet) (xs : List Packet) → flight n (x ∷ xs) ≡ None → same_name (name_of x) n ≡ false
absent_other n x xs h = grind (arith, h, same_name-turned)

names_more : (f : List Packet) (p : Packet) (b : List Packet) → flight (name_of p) (f ++ b) ≡ None → Distinct (f ++ b) → Distinct (f ++ p ∷ b)
names_more [] p b h a = (h, a)
names_more (x ∷ f) p b h a = (absent_more (name_of x) f p b (absent_other (name_of p) x (f ++ b) h) a.0, names_more f p b (absent_rest (name_of p) x (f ++ b) h) a.1)

pub names_add : (p : Packet) (xs ys : List Packet) → Inserts p xs ys → flight (name_of p) xs ≡ None → Distinct xs → Distinct ys
names_add p xs ys h e a =
    subst Distinct (sym h.whole) (names_more h.front p h.back (subst (λ l. flight (name_of p) l ≡ None) h.without e) (subst Distinct h.without a))

in_more : (g n : ℕ) (f b : List ℕ) → (g == n) ≡ false → is_in (f ++ b) n ≡ false → is_in (f ++ g ∷ b) n ≡ false
in_more g n [] b d h = grind (arith, nat_tests, h, d)
in_more g n (x ∷ f) b d h = grind (arith, nat_tests, h, d, in_more g n f b d)

in_other : (g x : ℕ) (xs : List ℕ) → is_in (x ∷ xs) g ≡ false → (g == x) ≡ false
in_other g x xs h = grind (arith, nat_tests, h)

in_rest : (g x : ℕ) (xs : List ℕ) → is_in (x ∷ xs) g ≡ false → is_in xs g ≡ false
in_rest g x xs h = grind (arith, nat_tests, h)

closed_more : (f : List ℕ) (g : ℕ) (b : List ℕ) → is_in (f ++ b) g ≡ false → DistinctClosed (f ++ b) → DistinctClosed (f ++ g ∷ b)
closed_more [] g b h a = (h, a)
closed_more (x ∷ f) g b h a = (in_more g x f b (in_other g x (f ++ b) h) a.0, closed_more f g b (in_rest g x (f ++ b) h) a.1)

pub closed_add : (g : ℕ) (xs ys : List ℕ) → Inserts g xs ys → is_in xs g ≡ false → DistinctClosed xs → DistinctClosed ys
closed_add g xs ys h e a =
    subst DistinctClosed (sym h.whole) (closed_more h.front g h.back (subst (λ l. is_in l g ≡ false) h.without e) (subst DistinctClosed h.without a))

pub orderly_push : (q : Parcel) → ((a : ℕ) → no_yield a (q ∷ []) ≡ true) → YieldsBeforeSaved (q ∷ []) → (qs : List Parcel) → YieldsBeforeSaved qs → YieldsBeforeSaved (qs ++ q ∷ [])
orderly_push q quiet alone [] o = alone
orderly_push q quiet alone (Data x ∷ qs) o = orderly_push q quiet alone qs o
orderly_push q quiet alone (Save x ∷ qs) o = orderly_push q quiet alone qs o
orderly_push q quiet alone (Saved a x w d ∷ qs) o = (no_more x.act qs o.0, orderly_push q quiet alone qs o.1)
  where
    no_more : (a : ℕ) (qs : List Parcel) → no_yield a qs ≡ true → no_yield a (qs ++ q ∷ []) ≡ true
    no_more a [] e = quiet a
    no_more a (Data x ∷ qs) e = no_more a qs e
    no_more a (Save x ∷ qs) e = no_more a qs e
    no_more a (Saved b x w d ∷ qs) e = no_more a qs e
    no_more a (Restore b x xs ∷ qs) e = no_more a qs e
    no_more a (Yield x ∷ qs) e = grind (arith, e, no_more a qs)
    no_more a (Closed x ∷ qs) e = no_more a qs e
orderly_push q quiet alone (Restore a x xs ∷ qs) o = orderly_push q quiet alone qs o
orderly_push q quiet alone (Yield x ∷ qs) o = orderly_push q quiet alone qs o
orderly_push q quiet alone (Closed x ∷ qs) o = orderly_push q quiet alone qs o

-- ---- any parcel

module _ (h : Site) (m : Machine) (t u : ℕ) (ht : t < 16) (hu : u < 16) (q : Parcel) where
  abbrev pub longer : Machine
  longer = with_parcel t (u, q) m

  abbrev j : ℕ
  j = 16 * t + u

  abbrev back : List Parcel
  back = get_or m.links (16 * t + u) [] ++ q ∷ []

  pub longer_places : length m.links ≡ 256 → placement_of h longer ≡ places_state.with_token t u (link_token q) (placement_of h m)
  longer_places len =
      let links = pushed_tokens m.links j q (is_link m.links t u back ht hu len) in
      λ k. record {
        current = map current_act m.tiles;
        actors = map (actor_in m) h.homes;
        links = links k;
        ready = m.kernel.ready;
        yielded = m.kernel.yielded;
        quantum = h.quantum;
      }

  -- a link from a tile leaves the kernel's links as they are
  pub walks_elsewhere : MachineStructure h m → 1 ≤ t → (w : ℕ) → 2 ≤ w → w < 16 → CurrentAlongLink (current_act (tile_at w m)) (link_at 0 w longer) (placed_on h w m.kernel)
  walks_elsewhere sound one w low high =
      links_set m.links t u back ht hu sound.links (λ x y qs. x ≡ 0 → CurrentAlongLink (current_act (tile_at y m)) qs (placed_on h y m.kernel)) 0 w high (λ z. sound.seated.walks w low high)
      (λ e d z. absurd (omega arith)) refl

  -- what is no Yield doesn't stand behind a Saved of its activity
  pub in_order : MachineStructure h m → ((a : ℕ) → no_yield a (q ∷ []) ≡ true) → YieldsBeforeSaved (q ∷ []) → u ≡ 0 → YieldsBeforeSaved back
  in_order sound quiet alone e = orderly_push q quiet alone (link_at t u m) (subst (λ y. YieldsBeforeSaved (link_at t y m)) (sym e) (sound.seated.orderly t ht))

  module _ (sound : MachineStructure h m) (ok : ParcelOk h m.kernel m.tiles t u q) (none : contexts_in q ≡ []) (plain : (a : ℕ) → is_save_of a q ≡ false)
      (ordered : u ≡ 0 → YieldsBeforeSaved back)
      (walk : (w : ℕ) → 2 ≤ w → w < 16 → CurrentAlongLink (current_act (tile_at w m)) (link_at 0 w longer) (placed_on h w m.kernel)) where
    in_links : j < length m.links
    in_links = is_link m.links t u back ht hu sound.links

    contexts_same : all_contexts longer ≡ all_contexts m
    contexts_same = ap (λ l. flat_map tile_contexts m.tiles ++ (flat_map entry_contexts m.kernel.seats ++ l)) (push_none contexts_in m.links j q in_links none)

    parcels_more : (a b : ℕ) → a < 16 → b < 16 → Each (ParcelOk h m.kernel m.tiles a b) (link_at a b longer)
    parcels_more a b ha hb =
        links_set m.links t u back ht hu sound.links (λ x y qs. Each (ParcelOk h m.kernel m.tiles x y) qs) a b hb (sound.parcels a b ha hb)
        (λ e d. subst (λ x. Each (ParcelOk h m.kernel m.tiles x b) back) e (subst (λ y. Each (ParcelOk h m.kernel m.tiles t y) back) d
        (each_append (ParcelOk h m.kernel m.tiles t u) (get_or m.links j []) (q ∷ []) (sound.parcels t u ht hu) (ok, tt))))

    leavings_more : (a : ℕ) → saves_in_flight a longer.links ≡ saves_in_flight a m.links
    leavings_more a =
        let r = total-set (λ qs. how_many (is_save_of a) qs) m.links j back [] in_links in
        let e = how_many-append (is_save_of a) (get_or m.links j []) (q ∷ []) in
        let d : one (is_save_of a q) ≡ 0 = ap one (plain a) in
        omega arith

    orderly_more : (w : ℕ) → w < 16 → YieldsBeforeSaved (link_at w 0 longer)
    orderly_more w high =
        links_set m.links t u back ht hu sound.links (λ x y qs. y ≡ 0 → YieldsBeforeSaved qs) w 0 (omega arith) (λ z. sound.seated.orderly w high)
        (λ e d z. ordered d) refl

    pub longer_sound : Distinct (all_packets longer) → DistinctClosed (all_closed longer) → ((g : ℕ) → is_in (all_closed longer) g ≡ true → CloseWasSent (grant_in m.kernel.grants g)) → MachineStructure h longer
    longer_sound names closed shut =
        record {
          setup = sound.setup;
          tiles = sound.tiles;
          links = length-set m.links j back ∙ sound.links;
          acts = subst DistinctActs (sym contexts_same) sound.acts;
          known = λ a e. subst (λ l. IsPresent (context_of a l)) (sym contexts_same) (sound.known a e);
          named = subst (Each (λ c. is_named_context h c ≡ true)) (sym contexts_same) sound.named;
          names = names;
          housed = record { seats = sound.housed.seats; tiles = sound.housed.tiles; stays = sound.housed.stays; current = sound.housed.current };
          parcels = parcels_more;
          seated = record {
            seats = sound.seated.seats;
            filled = sound.seated.filled;
            leaving = sound.seated.leaving;
            departing = λ a. leavings_more a ∙ sound.seated.departing a;
            walks = walk;
            orderly = orderly_more;
          };
          closed = closed;
          shut = shut;
          holders = sound.holders;
        }

-- ---- a packet

module _ (h : Site) (m : Machine) (t u : ℕ) (ht : t < 16) (hu : u < 16) (sound : MachineStructure h m) (p : Packet) (absent : flight (name_of p) (all_packets m) ≡ None) where
  abbrev pub sending : Machine
  sending = with_parcel t (u, Data p) m

  data_links : 16 * t + u < length m.links
  data_links = is_link m.links t u [] ht hu sound.links

  pub sending_packet : Inserts p (all_packets m) (all_packets sending)
  sending_packet =
      inserts_left (flat_map held_by m.kernel.seats) p (flat_links packets_in m.links) (flat_links packets_in sending.links) (push_one packets_in m.links (16 * t + u) (Data p) p data_links refl)

  data_closed : all_closed sending ≡ all_closed m
  data_closed = push_none closed_in m.links (16 * t + u) (Data p) data_links refl

  -- the ideal state has one flight more
  pub sending_state : ideal_of sending ≡ record (ideal_of m) { flights = new_flight p (ideal_of m).flights }
  sending_state =
      let contexts = push_none contexts_in m.links (16 * t + u) (Data p) data_links refl in
      let packets = by_name-inserts p (all_packets m) (all_packets sending) sending_packet absent in
      λ k. record {
        memory = m.memory;
        contexts = sorted_by_act (flat_map tile_contexts m.tiles ++ (flat_map entry_contexts m.kernel.seats ++ contexts k));
        flights = packets k;
        kernel_next = m.kernel.next;
        grants = closed_from 1 (data_closed k) m.kernel.grants;
      }

  pub sending_sound : ParcelOk h m.kernel m.tiles t u (Data p) → ((w : ℕ) → 2 ≤ w → w < 16 → CurrentAlongLink (current_act (tile_at w m)) (link_at 0 w sending) (placed_on h w m.kernel)) → MachineStructure h sending
  sending_sound ok walk =
      longer_sound h m t u ht hu (Data p) sound ok refl (λ a. refl) (in_order h m t u ht hu (Data p) sound (λ a. refl) tt) walk
      (names_add p (all_packets m) (all_packets sending) sending_packet absent sound.names)
      (subst DistinctClosed (sym data_closed) sound.closed)
      (λ g e. sound.shut g (subst (λ l. is_in l g ≡ true) data_closed e))

-- ---- the Closed of a grant

in_some : (g n : ℕ) (f b : List ℕ) → is_in (f ++ g ∷ b) n ≡ true → (is_in (f ++ b) n ≡ true) ⊎ (n ≡ g)
in_some g n f b e = by_test (is_in (f ++ b) n) refl
  where
    by_test : (z : Bool) → is_in (f ++ b) n ≡ z → (is_in (f ++ b) n ≡ true) ⊎ (n ≡ g)
    by_test true d = inl d
    by_test false d = inr (by_same (g == n) refl)
      where
        by_same : (z : Bool) → (g == n) ≡ z → n ≡ g
        by_same true k = grind (arith, nat_tests, k)
        by_same false k = absurd (let x = in_more g n f b k d in cc)

module _ (h : Site) (m : Machine) (t : ℕ) (ht : t < 16) (sound : MachineStructure h m) (g : ℕ) (absent : is_in (all_closed m) g ≡ false) where
  abbrev pub telling : Machine
  telling = with_parcel t (0, Closed g) m

  closed_links : 16 * t + 0 < length m.links
  closed_links = is_link m.links t 0 [] ht (omega arith) sound.links

  pub telling_closed : Inserts g (all_closed m) (all_closed telling)
  telling_closed = push_one closed_in m.links (16 * t + 0) (Closed g) g closed_links refl

  closed_packets : all_packets telling ≡ all_packets m
  closed_packets = ap (λ l. flat_map held_by m.kernel.seats ++ l) (push_none packets_in m.links (16 * t + 0) (Closed g) closed_links refl)

  -- the ideal state has the grant closed
  pub telling_state : ideal_of telling ≡ record (ideal_of m) { grants = closed_from 1 (all_closed telling) m.kernel.grants }
  telling_state =
      let contexts = push_none contexts_in m.links (16 * t + 0) (Closed g) closed_links refl in
      λ k. record {
        memory = m.memory;
        contexts = sorted_by_act (flat_map tile_contexts m.tiles ++ (flat_map entry_contexts m.kernel.seats ++ contexts k));
        flights = sorted_by_name (closed_packets k);
        kernel_next = m.kernel.next;
        grants = closed_from 1 (all_closed telling) m.kernel.grants;
      }

  pub telling_sound : CloseWasSent (grant_in m.kernel.grants g) → ((w : ℕ) → 2 ≤ w → w < 16 → CurrentAlongLink (current_act (tile_at w m)) (link_at 0 w telling) (placed_on h w m.kernel)) → MachineStructure h telling
  telling_sound isShut walk =
      longer_sound h m t 0 ht (omega arith) (Closed g) sound refl refl (λ a. refl) (in_order h m t 0 ht (omega arith) (Closed g) sound (λ a. refl) tt) walk
      (subst Distinct (sym closed_packets) sound.names)
      (closed_add g (all_closed m) (all_closed telling) telling_closed absent sound.closed)
      (λ n e. by_place n (in_some g n telling_closed.front telling_closed.back (subst (λ l. is_in l n ≡ true) telling_closed.whole e)))
    where
      by_place : (n : ℕ) → (is_in (telling_closed.front ++ telling_closed.back) n ≡ true) ⊎ (n ≡ g) → CloseWasSent (grant_in m.kernel.grants n)
      by_place n (inl e) = sound.shut n (subst (λ l. is_in l n ≡ true) (sym telling_closed.without) e)
      by_place n (inr e) = subst (λ x. CloseWasSent (grant_in m.kernel.grants x)) (sym e) isShut
