-- A tile takes Save, or sends a packet on to the kernel: the whole events.
use Rattle.std.proofs.Common.{◌≡◌, ℕ, ◌+◌, ◌*◌, ◌<◌, ◌≤◌, Bool, true, false, cond, List, [], ◌∷◌, ◌++◌, Some, None, refl, sym, subst, ◌∙◌, ap, arith, set, get_or, length, Option, inl}
use Rattle.std.specs.Prelude.{◌==◌, is_some}
use Rattle.std.proofs.lemmas.Bool.Decides.{nat_tests}
use Rattle.std.proofs.lemmas.List.{set-get_or, length-set}
use Rattle.m3_base.specs.declared.packet.Packet.{Packet}
use Rattle.m3_base.specs.declared.event.Event.{Event}
use Rattle.m3_base.specs.Lists.Keyed as keyed
use Rattle.m3_base.specs.Ideal.Context.{Context}
use Rattle.m3_base.specs.Ideal.State.{same_act}
use Rattle.m3_base.specs.Placement.Routing.{target}
use Rattle.m3_base.specs.Placement.Take.{is_here}
use Rattle.m3_base.specs.Lists.EachElement.{Each}
use Rattle.m3_merge.proofs.MergedIsRun.{each_map}
use Rattle.m3_model.specs.Config.Site.{Site, Home, home_of, tile_of, tile_in}
use Rattle.m3_model.specs.Parcel.{Parcel, Data, Save, Saved}
use Rattle.m3_model.specs.Tile.State.{Resident, Tile}
use Rattle.m3_model.specs.Config.KnownActivities.{is_home, is_named_context}
use Rattle.m3_model.specs.Tile.Step.{resident_of, with_current, is_waiting_resident}
use Rattle.m3_model.specs.Machine.{Machine, Tile_part, empty_tile, tile_at, link_at, with_link, with_part, with_parcels, machine_step}
use Rattle.m3_model.specs.Abstraction.{flat_map, flat_links, option_list, tile_contexts, entry_contexts, contexts_in, packets_in, closed_in, held_by, all_contexts, is_in, current_act}
use Rattle.m3_model.specs.Invariant.Distinct.{DistinctClosed}
use Rattle.m3_model.specs.Invariant.Housing.{HasHome, resident_at}
use Rattle.m3_model.specs.Invariant.LinkWalk.{CurrentAlongLink, placed_on}
use Rattle.m3_model.specs.Invariant.Parcels.{EndedFlagIs, HasDestination, ParcelOk}
use Rattle.m3_model.specs.Invariant.Scheduling.{saves_in_flight, LinksLeadOn}
use Rattle.m3_model.specs.Invariant.Structure.{MachineStructure}
use Rattle.m3_model.specs.Refinement.{Refines}
use Rattle.m3_refine.proofs.lists.Insertion.{Inserts, inserts_left, inserts_right, around_set, empties}
use Rattle.m3_refine.proofs.abstraction.MoveWithinMachine.{moved, moved_none, moved_in, SamePackets, SameClosed}
use Rattle.m3_refine.proofs.abstraction.FindActor.{after_save, takes_save}
use Rattle.m3_refine.proofs.events.take.RouteStep.{save_step}
use Rattle.m3_refine.proofs.events.take.BounceStep.{bounce_step, bounces}
use Rattle.m3_refine.proofs.abstraction.CurrentAlongLink.{front_save}
use Rattle.m3_refine.proofs.events.take.KernelTakesSavedStep.{save_fits}
use Rattle.m3_refine.proofs.lists.Update.{get_or-set, is_link}
use Rattle.m3_refine.proofs.lists.PerLink.{pop_length, pop_each, pop_leavings, pop_orderly, push_length, push_each, push_leavings, push_orderly, push_kernel, moves_each, moves_known, moves_apart}
use Rattle.m3_refine.proofs.abstraction.PopParcel.{popped_absent, popped_ok, popped_sound}
use Rattle.m3_refine.proofs.abstraction.PushParcel.{sending_sound, walks_elsewhere}
use Rattle.m3_refine.proofs.abstraction.ChangeContext.{Alike, alike-itself, ended-alike, there-alike}
use Rattle.m3_refine.proofs.abstraction.ChangeCurrentContext.{parcel-alike, seat-alike}
use Rattle.m3_refine.proofs.opening.HomesAndContexts.{some_there}
use Rattle.m3_base.specs.Ideal.FlightNames.{Distinct}

home_known : (h : Site) (a : ℕ) (y : Home) → home_of a h ≡ Some y → is_home h a ≡ true
home_known h a y e = ap is_some e

-- ---- a tile whose stays are as before

module _ (ts : List Tile) (t : ℕ) (ht : t < length ts) (y : Tile) (same : y.stays ≡ (get_or ts t (empty_tile t)).stays) where
  pub tile_either : (P : ℕ → Tile → Type 0) (u : ℕ) → ((t == u) ≡ false → P u (get_or ts u (empty_tile u))) → (t ≡ u → P u y) → P u (get_or (set ts t y) u (empty_tile u))
  tile_either P u have now = subst (P u) (sym (get_or-set ts t u y (empty_tile u) ht)) (by_test (t == u) refl)
    where
      by_test : (z : Bool) → (t == u) ≡ z → P u (cond z y (get_or ts u (empty_tile u)))
      by_test true k = now (grind (arith, nat_tests, k))
      by_test false k = have k

  pub stays_like : (a u : ℕ) → Alike (resident_of a (get_or ts u (empty_tile u))) (resident_of a (get_or (set ts t y) u (empty_tile u)))
  stays_like a u =
      tile_either (λ v z. Alike (resident_of a (get_or ts v (empty_tile v))) (resident_of a z)) u (λ k. alike-itself (resident_of a (get_or ts u (empty_tile u))))
      (λ k. subst (λ v. Alike (resident_of a (get_or ts v (empty_tile v))) (resident_of a y)) k
      (subst (λ l. Alike (resident_of a (get_or ts t (empty_tile t))) (keyed.find (λ (z : Resident). z.act) same_act a l)) (sym same) (alike-itself (resident_of a (get_or ts t (empty_tile t))))))

-- ---- Save

module _ (h : Site) (m : Machine) (t : ℕ) (low : 2 ≤ t) (high : t < 16) (sound : MachineStructure h m) (c : Context) (qs : List Parcel)
    (g : link_at 0 t m ≡ Save c.act ∷ qs) (e : (tile_at t m).current ≡ Some c) (y : Home) (hy : home_of c.act h ≡ Some y) (here' : y.tile ≡ t) (z : Resident) (hz : resident_of c.act (tile_at t m) ≡ Some z) where
  pub in_tiles : t < length m.tiles
  in_tiles = subst (λ n. t < n) (sym sound.tiles) high

  pub in_links : 16 * 0 + t < length m.links
  in_links = is_link m.links 0 t qs (omega arith) high sound.links

  pub to_kernel : 16 * t + 0 < length m.links
  to_kernel = is_link m.links t 0 qs high (omega arith) sound.links

  no_kernel : (t == 0) ≡ false
  no_kernel = grind (arith, nat_tests, low)

  no_memory : (t == 1) ≡ false
  no_memory = grind (arith, nat_tests, low)

  zero_low : 0 < 16
  zero_low = omega arith

  abbrev n : Machine
  n = after_save h m t 0 in_tiles in_links to_kernel c z qs

  abbrev q : Parcel
  q = Saved c.act c (is_waiting_resident c (Some z)) z.ended

  abbrev gone : Tile
  gone = with_current None (tile_at t m)

  abbrev shorter : List (List Parcel)
  shorter = set m.links (16 * 0 + t) qs

  like : (a : ℕ) → Alike (resident_at h m.tiles a) (resident_at h n.tiles a)
  like a = stays_like m.tiles t in_tiles gone refl a (tile_of h a)

  its_home : tile_of h c.act ≡ t
  its_home = ap tile_in hy ∙ here'

  stay_there : resident_at h m.tiles c.act ≡ Some z
  stay_there = ap (λ u. resident_of c.act (tile_at u m)) its_home ∙ hz

  -- ---- its context moves from the tile to the link

  moves : (base : List Context) × Inserts c base (all_contexts m) × Inserts c base (all_contexts n)
  moves =
      let seats = flat_map entry_contexts m.kernel.seats in
      let old = flat_links contexts_in m.links in
      let new = flat_links contexts_in (moved m.links (16 * 0 + t) qs (16 * t + 0) q) in
      let ts = flat_map tile_contexts m.tiles in
      let us = flat_map tile_contexts (set m.tiles t gone) in
      let leaves : Inserts c us ts =
      empties tile_contexts (flat_map tile_contexts) (get_or m.tiles t (empty_tile t)) m.tiles (λ y. set m.tiles t y) c gone (around_set tile_contexts (empty_tile t) m.tiles t in_tiles) (ap option_list e) refl in
      let enters : Inserts c old new = moved_in contexts_in m.links (16 * 0 + t) (16 * t + 0) (Save c.act) q qs in_links to_kernel g c refl refl in
      (us ++ (seats ++ old), inserts_right (seats ++ old) c us ts leaves, inserts_left us c (seats ++ old) (seats ++ new) (inserts_left seats c old new enters))

  packets_same : SamePackets m n
  packets_same = ap (λ l. flat_map held_by m.kernel.seats ++ l) (moved_none packets_in m.links (16 * 0 + t) (16 * t + 0) (Save c.act) q qs in_links to_kernel g refl refl)

  closed_same : SameClosed m n
  closed_same = moved_none closed_in m.links (16 * 0 + t) (16 * t + 0) (Save c.act) q qs in_links to_kernel g refl refl

  -- ---- links

  len : length shorter ≡ 256
  len = pop_length m.links 0 t zero_low high sound.links (Save c.act) qs g

  saved_ok : ParcelOk h m.kernel n.tiles t 0 q
  saved_ok = (refl, home_known h c.act y hy, sym its_home, ended-alike z.ended (resident_at h m.tiles c.act) (resident_at h n.tiles c.act) (like c.act) (subst (EndedFlagIs z.ended) (sym stay_there) refl), refl)

  parcels' : (a b : ℕ) → a < 16 → b < 16 → Each (ParcelOk h m.kernel n.tiles a b) (link_at a b n)
  parcels' =
      push_each shorter t 0 high zero_low len q (ParcelOk h m.kernel n.tiles)
      (pop_each m.links 0 t zero_low high sound.links (Save c.act) qs g (ParcelOk h m.kernel n.tiles)
      (λ a b ha hb. each_map (ParcelOk h m.kernel m.tiles a b) (ParcelOk h m.kernel n.tiles a b) (parcel-alike h m.kernel m.tiles n.tiles like a b) (link_at a b m) (sound.parcels a b ha hb))) saved_ok

  departing' : (a : ℕ) → saves_in_flight a n.links ≡ saves_in_flight a m.links
  departing' a =
      let x = pop_leavings m.links 0 t zero_low high sound.links (Save c.act) qs g a in
      let y = push_leavings shorter t 0 high zero_low len q a in
      omega arith

  walks' : LinksLeadOn h n m.kernel
  walks' w lo hi =
      subst (λ l. CurrentAlongLink (current_act (tile_at w n)) l (placed_on h w m.kernel)) (sym (push_kernel shorter t 0 high zero_low len q (omega arith) w hi)) (by_test (t == w) refl)
    where
      old : (w : ℕ) → 2 ≤ w → w < 16 → CurrentAlongLink (current_act (tile_at w m)) (link_at 0 w m) (placed_on h w m.kernel)
      old = sound.seated.walks

      by_test : (b : Bool) → (t == w) ≡ b → CurrentAlongLink (current_act (tile_at w n)) (get_or shorter (16 * 0 + w) []) (placed_on h w m.kernel)
      by_test true k =
          let s : t ≡ w = grind (arith, nat_tests, k) in
          subst (λ v. CurrentAlongLink (current_act (tile_at v n)) (get_or shorter (16 * 0 + v) []) (placed_on h v m.kernel)) s
          (subst (λ l. CurrentAlongLink (current_act (tile_at t n)) l (placed_on h t m.kernel)) (sym (get_or-set m.links (16 * 0 + t) (16 * 0 + t) qs [] in_links ∙ same (16 * 0 + t)))
          (subst (λ o. CurrentAlongLink o qs (placed_on h t m.kernel)) (sym gone_there) (front_save (current_act (tile_at t m)) c.act qs (placed_on h t m.kernel) (subst (λ l. CurrentAlongLink (current_act (tile_at t m)) l (placed_on h t m.kernel)) g (old t low high))).1))
        where
          same : (i : ℕ) → cond (i == i) qs (get_or m.links i []) ≡ qs
          same i = ap (λ b. cond b qs (get_or m.links i [])) (let r : (i == i) ≡ true = grind (arith, nat_tests) in r)

          gone_there : current_act (tile_at t n) ≡ None
          gone_there = tile_either m.tiles t in_tiles gone refl (λ v z. v ≡ t → current_act z ≡ None) t (λ d i. absurd (let r : (t == t) ≡ true = grind (arith, nat_tests) in cc)) (λ d i. refl) refl
      by_test false k =
          subst (λ l. CurrentAlongLink (current_act (tile_at w n)) l (placed_on h w m.kernel)) (sym (get_or-set m.links (16 * 0 + t) (16 * 0 + w) qs [] in_links ∙ other))
          (subst (λ o. CurrentAlongLink o (link_at 0 w m) (placed_on h w m.kernel)) (sym still) (old w lo hi))
        where
          other : cond (16 * 0 + t == 16 * 0 + w) qs (get_or m.links (16 * 0 + w) []) ≡ get_or m.links (16 * 0 + w) []
          other = ap (λ b. cond b qs (get_or m.links (16 * 0 + w) [])) (let r : (16 * 0 + t == 16 * 0 + w) ≡ false = grind (arith, nat_tests, k) in r)

          still : current_act (tile_at w n) ≡ current_act (tile_at w m)
          still = tile_either m.tiles t in_tiles gone refl (λ v z. (t == v) ≡ false → current_act z ≡ current_act (tile_at v m)) w (λ d i. refl) (λ d i. absurd (let r : (t == w) ≡ true = grind (arith, nat_tests, d) in cc)) k

  pub save_sound : MachineStructure h n
  save_sound =
      record {
        setup = sound.setup;
        tiles = length-set m.tiles t gone ∙ sound.tiles;
        links = push_length shorter t 0 high zero_low len q;
        acts = moves_apart c moves.0 (all_contexts m) (all_contexts n) moves.1 moves.2 sound.acts;
        known = λ a k. moves_known c moves.0 (all_contexts m) (all_contexts n) moves.1 moves.2 a (sound.known a k);
        named = moves_each c moves.0 (all_contexts m) (all_contexts n) moves.1 moves.2 (λ c. is_named_context h c ≡ true) sound.named;
        names = subst Distinct (sym packets_same) sound.names;
        housed = record {
          seats = sound.housed.seats;
          tiles = λ u k. tile_either m.tiles t in_tiles gone refl (λ v z. z.tile ≡ v) u (λ d. sound.housed.tiles u k) (λ d. sound.housed.tiles t high ∙ d);
          stays = λ a k. there-alike (resident_at h m.tiles a) (resident_at h n.tiles a) (like a) (sound.housed.stays a k);
          current = λ u w k. tile_either m.tiles t in_tiles gone refl (λ v z. z.current ≡ Some w → HasHome h v w.act) u (λ d. sound.housed.current u w) (λ d i. absurd (cc)) k;
        };
        parcels = parcels';
        seated = record {
          seats = λ a x k. (seat-alike h m.tiles n.tiles like x x.seating (sound.seated.seats a x k).0, (sound.seated.seats a x k).1);
          filled = sound.seated.filled;
          leaving = sound.seated.leaving;
          departing = λ a. departing' a ∙ sound.seated.departing a;
          walks = walks';
          orderly = push_orderly shorter t 0 high zero_low len q (λ a. refl) (refl, tt) (pop_orderly m.links 0 t zero_low high sound.links (Save c.act) qs g sound.seated.orderly);
        };
        closed = subst DistinctClosed (sym closed_same) sound.closed;
        shut = λ x k. sound.shut x (subst (λ l. is_in l x ≡ true) closed_same k);
        holders = sound.holders;
      }

  pub save_refines_by : (key : y.act ≡ c.act) → Refines h m (Event.Take t 0) None (machine_step h m (Event.Take t 0) None)
  save_refines_by key =
      subst (Refines h m (Event.Take t 0) None) (sym (save_step h m t 0 in_tiles in_links to_kernel no_kernel no_memory c z qs g e hz))
      (takes_save h m t 0 in_tiles in_links to_kernel c y z qs no_kernel g e sound.acts hy key (ap (λ a. resident_of a (tile_at y.tile m)) key ∙ ap (λ u. resident_of c.act (tile_at u m)) here' ∙ hz), save_sound)

-- a home is found under its own number
home_key : (a : ℕ) (xs : List Home) (y : Home) → keyed.find (λ (x : Home). x.act) same_act a xs ≡ Some y → y.act ≡ a
home_key a [] y e = absurd (cc)
home_key a (x ∷ xs) y e = key_by a x y (keyed.find (λ (x : Home). x.act) same_act a xs) (a == x.act) refl (home_key a xs y) e
  where
    key_by : (a : ℕ) (z y : Home) (o : Option Home) (b : Bool) → (a == z.act) ≡ b → (o ≡ Some y → y.act ≡ a) → cond b (Some z) o ≡ Some y → y.act ≡ a
    key_by a z y o true d ih e = let k : z ≡ y = cc in ap (λ w. w.act) (sym k) ∙ (let n : z.act ≡ a = grind (arith, nat_tests, d) in n)
    key_by a z y o false d ih e = ih e

module _ (h : Site) (m : Machine) (t : ℕ) (low : 2 ≤ t) (high : t < 16) (sound : MachineStructure h m) where
  -- a tile takes Save from the kernel
  pub save_refines : (a : ℕ) (qs : List Parcel) → link_at 0 t m ≡ Save a ∷ qs → Refines h m (Event.Take t 0) None (machine_step h m (Event.Take t 0) None)
  save_refines a qs g =
      let f = save_fits h m sound t low high a qs g in
      let c = f.0 in
      let lives = sound.housed.current t c f.1 in
      let y = lives.0 in
      let known : is_home h c.act ≡ true = home_known h c.act y lives.1 in
      let stay = some_there (resident_at h m.tiles c.act) (sound.housed.stays c.act known) in
      let at : tile_of h c.act ≡ t = ap tile_in lives.1 ∙ lives.2 in
      save_refines_by h m t low high sound c qs (g ∙ ap (λ n. Save n ∷ qs) (sym f.2)) f.1 y lives.1 lives.2 stay.0 (ap (λ u. resident_of c.act (tile_at u m)) (sym at) ∙ stay.1) (home_key c.act h.homes y lives.1)

  -- a tile sends on what is for another activity
  pub bounce_refines : (from : ℕ) → from < 16 → (p : Packet) (qs : List Parcel) → link_at from t m ≡ Data p ∷ qs → is_here (target p) (current_act (tile_at t m)) ≡ false
      → Refines h m (Event.Take t from) None (machine_step h m (Event.Take t from) None)
  bounce_refines from hf p qs g away' =
      let ht : t < length m.tiles = subst (λ n. t < n) (sym sound.tiles) high in
      let hi = is_link m.links from t qs hf high sound.links in
      let hj = is_link m.links t 0 qs high (omega arith) sound.links in
      let t0 : (t == 0) ≡ false = grind (arith, nat_tests, low) in
      let t1 : (t == 1) ≡ false = grind (arith, nat_tests, low) in
      let left = with_link from t qs m in
      let left_sound = popped_sound h m from t hf high sound p qs g in
      let ok = popped_ok h m from t hf high sound p qs g in
      let aim = aims (target p) ok.1 low in
      let sent : MachineStructure h (with_parcels t ((0, Data p) ∷ []) left) =
      sending_sound h left t 0 high (omega arith) left_sound p (popped_absent h m from t hf high sound p qs g) (ok.0, to_kernel (target p) ok.1 low)
      (walks_elsewhere h left t 0 high (omega arith) (Data p) left_sound (omega arith)) in
      let same : with_part t (Tile_part (tile_at t m)) left ≡ left = (λ k. record left { tiles = set-get_or m.tiles t (empty_tile t) k }) in
      subst (Refines h m (Event.Take t from) None) (sym (bounce_step h m t from ht hi hj t0 t1 p qs g away' aim.0 aim.1))
      (bounces h m t from ht hi hj t0 t1 p qs g away' aim.0 aim.1 sound.names, subst (λ k. MachineStructure h (with_parcels t ((0, Data p) ∷ []) k)) (sym same) sent)
    where
      -- a read or a write goes to the memory
      aims : (o : Option ℕ) → HasDestination h t o → 2 ≤ t → (a : ℕ) × (o ≡ Some a)
      aims None k l = absurd (omega arith)
      aims (Some a) k l = (a, refl)

      to_kernel : (o : Option ℕ) → HasDestination h t o → 2 ≤ t → HasDestination h 0 o
      to_kernel None k l = absurd (omega arith)
      to_kernel (Some a) k l = inl refl
