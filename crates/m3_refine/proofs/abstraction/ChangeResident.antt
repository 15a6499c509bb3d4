-- A tile, one stay of whose current activity changed: the ideal state stays, the places have the changed actor, and the
-- machine stays sound. Whether its program has ended may change too: nobody else says so while it is there.
use Rattle.std.proofs.Common.{◌≡◌, ℕ, ◌<◌, Bool, true, false, cond, ◌++◌, Some, refl, sym, subst, ◌∙◌, ap, arith, set, get_or, length, map}
use Rattle.std.specs.Prelude.{◌==◌, is_some}
use Rattle.std.proofs.lemmas.Bool.Decides.{nat_tests}
use Rattle.std.proofs.lemmas.List.{map-set, set-get_or, set-set}
use Rattle.m3_base.specs.Ideal.Context.{Context}
use Rattle.m3_base.specs.Ideal.State.{context_of, same_act}
use Rattle.m3_base.specs.Lists.EachElement.{Each}
use Rattle.m3_base.specs.Placement.State as places_state
use Rattle.m3_base.specs.Placement.State.{PlacedActivity}
use Rattle.m3_base.proofs.KeyedList.{find-replaced_other, find-replaced_same}
use Rattle.m3_model.specs.Config.Site.{Home, Site, home_of, tile_of, tile_in}
use Rattle.m3_model.specs.Config.KnownActivities.{is_home, is_named_context}
use Rattle.m3_model.specs.Parcel.{Parcel, Data, Save, Saved, Restore, Yield, Closed}
use Rattle.m3_model.specs.Tile.State.{Resident, Tile}
use Rattle.m3_model.specs.Tile.Step.{resident_act, resident_of, with_resident}
use Rattle.m3_model.specs.Kernel.State.{EntryResidency, Is_placed, Is_leaving, Is_resting, Is_coming, ActivityEntry}
use Rattle.m3_model.specs.Kernel.Step.{entry_of}
use Rattle.m3_model.specs.Machine.{Machine, Tile_part, empty_tile, tile_at, link_at, with_part}
use Rattle.m3_model.specs.Abstraction.{flat_map, flat_links, tile_contexts, entry_contexts, residency_contexts, contexts_in, all_contexts, all_closed, all_packets, sorted_by_act, closed_from, ideal_of, actor_in, actor_by, current_act, placement_of}
use Rattle.m3_base.specs.Ideal.Flights.{sorted_by_name}
use Rattle.m3_base.specs.Ideal.State.{DistinctActs}
use Rattle.m3_model.specs.Invariant.Housing.{HasHome, IsPresent, resident_at}
use Rattle.m3_model.specs.Invariant.LinkWalk.{CurrentAlongLink, placed_on}
use Rattle.m3_model.specs.Invariant.Parcels.{EndedFlagIs, ParcelOk}
use Rattle.m3_model.specs.Invariant.Scheduling.{EntryOk}
use Rattle.m3_model.specs.Invariant.Structure.{MachineStructure}
use Rattle.m3_refine.proofs.lists.Insertion.{alike, around_set}
use Rattle.m3_refine.proofs.lists.Update.{get_or-set}
use Rattle.std.proofs.lemmas.List.{length-set}
use Rattle.m3_base.proofs.Activities.{same_act-joins}
use Rattle.m3_refine.proofs.abstraction.OtherContexts.{IsOther, by_contexts, none_on_link, none_at_entry}
use Rattle.m3_refine.proofs.abstraction.ReplaceEntry.{actors_then, seat_key}
use Rattle.m3_refine.proofs.events.take.RouteRefines.{KnownActivity, home_key, known_activity}

-- who is current has its home there
pub current_home : (h : Site) (m : Machine) (t : ℕ) → MachineStructure h m → (c : Context) → (tile_at t m).current ≡ Some c → (is_home h c.act ≡ true) × (tile_of h c.act ≡ t)
current_home h m t sound c here = let y = sound.housed.current t c here in (ap is_some y.1, ap tile_in y.1 ∙ y.2)

pub current_activity : (h : Site) (m : Machine) (t : ℕ) → MachineStructure h m → (c : Context) → (tile_at t m).current ≡ Some c → KnownActivity h m c.act
current_activity h m t sound c here = known_activity h m c.act sound (current_home h m t sound c here).0

-- ---- a tile that is set anew, and again

module _ (m : Machine) (t : ℕ) (ht : t < length m.tiles) (x : Tile) where
  pub tile_there : tile_at t (with_part t (Tile_part x) m) ≡ x
  tile_there =
      let k : (t == t) ≡ true = grind (arith, nat_tests) in
      get_or-set m.tiles t t x (empty_tile t) ht ∙ ap (λ b. cond b x (get_or m.tiles t (empty_tile t))) k

  pub tile_again : (f : Tile → Tile) → with_part t (Tile_part (f (tile_at t (with_part t (Tile_part x) m)))) (with_part t (Tile_part x) m) ≡ with_part t (Tile_part (f x)) m
  tile_again f =
      ap (λ y. with_part t (Tile_part (f y)) (with_part t (Tile_part x) m)) tile_there
      ∙ (λ k. record m { tiles = set-set m.tiles t x (f x) k })

-- ---- the frame

module _ (h : Site) (m : Machine) (t : ℕ) (ht : t < 16) (sound : MachineStructure h m) (c : Context) (here : (tile_at t m).current ≡ Some c)
    (y z : Resident) (found : resident_of c.act (tile_at t m) ≡ Some y) (same : z.act ≡ c.act) where
  abbrev pub restayed : Machine
  restayed = with_part t (Tile_part (with_resident z (tile_at t m))) m

  abbrev tile_after : Tile
  tile_after = with_resident z (tile_at t m)

  in_tiles : t < length m.tiles
  in_tiles = subst (λ n. t < n) (sym sound.tiles) ht

  lives : (is_home h c.act ≡ true) × (tile_of h c.act ≡ t)
  lives = current_home h m t sound c here

  -- ---- tiles and residents

  tile_set : (P : ℕ → Tile → Type 0) (u : ℕ) → P u (tile_at u m) → (t ≡ u → P u tile_after) → P u (tile_at u restayed)
  tile_set P u have now = subst (P u) (sym (get_or-set m.tiles t u tile_after (empty_tile u) in_tiles)) (by_test (t == u) refl)
    where
      by_test : (b : Bool) → (t == u) ≡ b → P u (cond b tile_after (get_or m.tiles u (empty_tile u)))
      by_test true k = now (grind (arith, nat_tests, k))
      by_test false k = have

  other_resident : (a : ℕ) → (a == c.act) ≡ false → resident_of a tile_after ≡ resident_of a (tile_at t m)
  other_resident a d =
      find-replaced_other resident_act same_act same_act a z (tile_at t m).stays same_act-joins (ap (λ n. a == n) same ∙ d)

  its_resident : resident_of c.act tile_after ≡ Some z
  its_resident =
      ap (λ a. resident_of a tile_after) (sym same)
      ∙ find-replaced_same resident_act same_act same_act z y (tile_at t m).stays (let k : same_act z.act z.act ≡ true = grind (arith, nat_tests) in k) (ap (λ a. resident_of a (tile_at t m)) same ∙ found)

  -- any other resident is as before
  still : (a u : ℕ) → (a == c.act) ≡ false → resident_of a (tile_at u restayed) ≡ resident_of a (tile_at u m)
  still a u d =
      tile_set (λ v x. resident_of a x ≡ resident_of a (tile_at v m)) u refl
      (λ e. subst (λ v. resident_of a tile_after ≡ resident_of a (tile_at v m)) e (other_resident a d))

  -- and it is this one
  tile_now : tile_at t restayed ≡ tile_after
  tile_now = tile_there m t in_tiles tile_after

  now_there : resident_of c.act (tile_at t restayed) ≡ Some z
  now_there = ap (resident_of c.act) tile_now ∙ its_resident

  pub still_here : (tile_at t restayed).current ≡ Some c
  still_here = ap (λ (x : Tile). x.current) tile_now ∙ here

  ended_still : (a : ℕ) (e : Bool) → (a == c.act) ≡ false → EndedFlagIs e (resident_at h m.tiles a) → EndedFlagIs e (resident_at h restayed.tiles a)
  ended_still a e d o = subst (EndedFlagIs e) (sym (still a (tile_of h a) d)) o

  present : (a : ℕ) → IsPresent (resident_at h m.tiles a) → IsPresent (resident_at h restayed.tiles a)
  present a k = by_test (a == c.act) refl
    where
      by_test : (b : Bool) → (a == c.act) ≡ b → IsPresent (resident_at h restayed.tiles a)
      by_test false d = subst IsPresent (sym (still a (tile_of h a) d)) k
      by_test true d =
          let e : a ≡ c.act = grind (arith, nat_tests, d) in
          subst (λ n. IsPresent (resident_at h restayed.tiles n)) (sym e) (
          subst (λ u. IsPresent (resident_of c.act (tile_at u restayed))) (sym lives.1) (subst IsPresent (sym now_there) tt)
          )

  -- ---- the same contexts

  pub restayed_contexts : all_contexts restayed ≡ all_contexts m
  restayed_contexts =
      ap (λ l. l ++ (flat_map entry_contexts m.kernel.seats ++ flat_links contexts_in m.links))
      (alike tile_contexts (flat_map tile_contexts) (tile_at t m) m.tiles (λ x. set m.tiles t x) tile_after (around_set tile_contexts (empty_tile t) m.tiles t in_tiles) refl)

  pub restayed_state : ideal_of restayed ≡ ideal_of m
  restayed_state =
      λ k. record {
        memory = m.memory;
        contexts = sorted_by_act (restayed_contexts k);
        flights = sorted_by_name (all_packets m);
        kernel_next = m.kernel.next;
        grants = closed_from 1 (all_closed m) m.kernel.grants;
      }

  -- ---- the places

  current_same : (u : ℕ) → current_act (tile_at u restayed) ≡ current_act (tile_at u m)
  current_same u = tile_set (λ v x. current_act x ≡ current_act (tile_at v m)) u refl (λ e. ap (λ v. current_act (tile_at v m)) e)

  module _ (v : Home) (there : home_of c.act h ≡ Some v) where
    key : v.act ≡ c.act
    key = home_key c.act h.homes v there

    abbrev its_actor : PlacedActivity
    its_actor = actor_by v (entry_of v.act m.kernel) (Some z)

    new_actor : actor_in restayed v ≡ its_actor
    new_actor =
        ap (actor_by v (entry_of v.act m.kernel))
        (ap (λ a. resident_of a (tile_at v.tile restayed)) key ∙ ap (λ u. resident_of c.act (tile_at u restayed)) (sym (ap tile_in there) ∙ lives.1) ∙ now_there)

    other_actor : (w : Home) → (v.act == w.act) ≡ false → actor_in restayed w ≡ actor_in m w
    other_actor w d =
        ap (actor_by w (entry_of w.act m.kernel)) (still w.act w.tile (let k = key in let e : (w.act == c.act) ≡ false = grind (arith, nat_tests, d, k) in e))

    -- with the actor as it is then
    pub restayed_places : placement_of h restayed ≡ places_state.with_actor (actor_by v (entry_of v.act m.kernel) (Some z)) (placement_of h m)
    restayed_places =
        let current : map current_act (set m.tiles t tile_after) ≡ map current_act m.tiles =
        map-set current_act m.tiles t tile_after
        ∙ sym (map-set current_act m.tiles t (tile_at t m))
        ∙ ap (map current_act) (set-get_or m.tiles t (empty_tile t)) in
        let actors = sym (actors_then h m restayed v its_actor new_actor sound.setup.homes (ap (λ a. home_of a h) key ∙ there) other_actor) in
        λ k. record (placement_of h m) { current = current k; actors = actors k }

  -- ---- it is as sound

  parcel_kept : (from to : ℕ) (q : Parcel) → Each (IsOther c.act) (contexts_in q) → ParcelOk h m.kernel m.tiles from to q → ParcelOk h m.kernel restayed.tiles from to q
  parcel_kept from to (Data p) e o = o
  parcel_kept from to (Save a) e o = o
  parcel_kept from to (Saved a d w f) e o = (o.0, o.1, o.2, ended_still d.act f e.0 o.3, o.4)
  parcel_kept from to (Restore a d xs) e o = o
  parcel_kept from to (Yield a) e o = o
  parcel_kept from to (Closed g) e o = o

  entry_kept : (x : ActivityEntry) (w : EntryResidency) → Each (IsOther c.act) (residency_contexts w) → EntryOk h m.tiles x w → EntryOk h restayed.tiles x w
  entry_kept x Is_placed e o = o
  entry_kept x Is_leaving e o = o
  entry_kept x (Is_resting s) e o = (o.0, ended_still x.act s.ended (ap (λ n. n == c.act) (sym o.0) ∙ e.0) o.1)
  entry_kept x (Is_coming s) e o = (o.0, ended_still x.act s.ended (ap (λ n. n == c.act) (sym o.0) ∙ e.0) o.1)

  pub restayed_sound : MachineStructure h restayed
  restayed_sound =
      record {
        setup = sound.setup;
        tiles = length-set m.tiles t tile_after ∙ sound.tiles;
        links = sound.links;
        acts = subst DistinctActs (sym restayed_contexts) sound.acts;
        known = λ a k. subst (λ l. IsPresent (context_of a l)) (sym restayed_contexts) (sound.known a k);
        named = subst (Each (λ d. is_named_context h d ≡ true)) (sym restayed_contexts) sound.named;
        names = sound.names;
        housed = record {
          seats = sound.housed.seats;
          tiles = λ u high. tile_set (λ v x. x.tile ≡ v) u (sound.housed.tiles u high) (λ e. sound.housed.tiles t ht ∙ e);
          stays = λ a k. present a (sound.housed.stays a k);
          current = λ u d k. tile_set (λ v x. x.current ≡ Some d → HasHome h v d.act) u (sound.housed.current u d)
              (λ e. subst (λ v. tile_after.current ≡ Some d → HasHome h v d.act) e (sound.housed.current t d)) k;
        };
        parcels = λ a b ha hb. by_contexts (IsOther c.act) (ParcelOk h m.kernel m.tiles a b) (ParcelOk h m.kernel restayed.tiles a b) (parcel_kept a b) (link_at a b m)
            (none_on_link m t in_tiles c here sound.acts a b) (sound.parcels a b ha hb);
        seated = record {
          seats = λ a x k. let s = sound.seated.seats a x k in
              let there : entry_of x.act m.kernel ≡ Some x = ap (λ n. entry_of n m.kernel) (seat_key a m.kernel.seats x k) ∙ k in
              (entry_kept x x.seating (none_at_entry m t in_tiles c here sound.acts x there) s.0, s.1);
          filled = sound.seated.filled;
          leaving = sound.seated.leaving;
          departing = sound.seated.departing;
          walks = λ u low high. subst (λ o. CurrentAlongLink o (link_at 0 u m) (placed_on h u m.kernel)) (sym (current_same u)) (sound.seated.walks u low high);
          orderly = sound.seated.orderly;
        };
        closed = sound.closed;
        shut = sound.shut;
        holders = sound.holders;
      }
