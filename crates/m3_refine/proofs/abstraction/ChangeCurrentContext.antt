-- A tile whose current activity has a new context, and whose program may have seen something.
use Rattle.std.proofs.Common.{◌≡◌, ℕ, ◌<◌, Bool, true, false, cond, List, ◌∷◌, ◌++◌, Some, None, refl, sym, subst, ◌∙◌, ap, arith, append_assoc, set, get_or, length, map}
use Rattle.std.specs.Prelude.{Option, ◌==◌}
use Rattle.std.proofs.lemmas.Bool.Decides.{nat_tests}
use Rattle.std.proofs.lemmas.List.{map-set, set-get_or, length-set}
use Rattle.m3_base.specs.Ideal.Context.{Context}
use Rattle.m3_base.specs.Ideal.State.{put_context}
use Rattle.m3_merge.proofs.MergedIsRun.{each_map}
use Rattle.m3_model.specs.Config.Site.{Site, tile_of}
use Rattle.m3_model.specs.Kernel.State.{Kernel, EntryResidency, Is_placed, Is_leaving, Is_resting, Is_coming, ActivityEntry}
use Rattle.m3_model.specs.Parcel.{Parcel, Data, Save, Saved, Restore, Yield, Closed}
use Rattle.m3_model.specs.Tile.State.{Tile}
use Rattle.m3_model.specs.Config.KnownActivities.{is_named_context}
use Rattle.m3_model.specs.Tile.Step.{act_in, resident_of}
use Rattle.m3_model.specs.Kernel.Step.{entry_of}
use Rattle.m3_model.specs.Machine.{Machine, Tile_part, empty_tile, tile_at, link_at, with_part}
use Rattle.m3_model.specs.Abstraction.{flat_map, flat_links, option_list, tile_contexts, entry_contexts, contexts_in, all_contexts, all_closed, all_packets, closed_from, ideal_of, actor_in, current_act, placement_of}
use Rattle.m3_model.specs.Invariant.LinkWalk.{CurrentAlongLink, placed_on}
use Rattle.m3_model.specs.Invariant.Housing.{HasHome, resident_at}
use Rattle.m3_model.specs.Invariant.Parcels.{ParcelOk}
use Rattle.m3_model.specs.Invariant.Scheduling.{EntryOk}
use Rattle.m3_model.specs.Invariant.Structure.{MachineStructure}
use Rattle.m3_refine.proofs.lists.Insertion.{around_set}
use Rattle.m3_refine.proofs.lists.Update.{get_or-set}
use Rattle.m3_refine.proofs.abstraction.ChangeContext.{Alike, alike-itself, actor-alike, ended-alike, there-alike, map-same, Swaps, swaps_state, swaps_apart, swaps_known, swaps_each}
use Rattle.m3_base.specs.Ideal.Flights.{sorted_by_name}

pub parcel-alike : (h : Site) (k : Kernel) (ts us : List Tile) → ((a : ℕ) → Alike (resident_at h ts a) (resident_at h us a)) → (from to : ℕ) (q : Parcel) → ParcelOk h k ts from to q → ParcelOk h k us from to q
parcel-alike h k ts us e from to (Data p) o = o
parcel-alike h k ts us e from to (Save a) o = o
parcel-alike h k ts us e from to (Saved a c w d) o = (o.0, o.1, o.2, ended-alike d (resident_at h ts c.act) (resident_at h us c.act) (e c.act) o.3, o.4)
parcel-alike h k ts us e from to (Restore a c xs) o = o
parcel-alike h k ts us e from to (Yield a) o = o
parcel-alike h k ts us e from to (Closed g) o = o

pub seat-alike : (h : Site) (ts us : List Tile) → ((a : ℕ) → Alike (resident_at h ts a) (resident_at h us a)) → (x : ActivityEntry) (w : EntryResidency) → EntryOk h ts x w → EntryOk h us x w
seat-alike h ts us e x Is_placed o = o
seat-alike h ts us e x Is_leaving o = o
seat-alike h ts us e x (Is_resting y) o = (o.0, ended-alike y.ended (resident_at h ts x.act) (resident_at h us x.act) (e x.act) o.1)
seat-alike h ts us e x (Is_coming y) o = (o.0, ended-alike y.ended (resident_at h ts x.act) (resident_at h us x.act) (e x.act) o.1)

module _ (h : Site) (m : Machine) (t : ℕ) (ht : t < 16) (sound : MachineStructure h m) (x : Tile) (c d : Context)
    (old : (tile_at t m).current ≡ Some c) (new : x.current ≡ Some d) (same : d.act ≡ c.act) (number : x.tile ≡ (tile_at t m).tile)
    (stays : (a : ℕ) → Alike (resident_of a (tile_at t m)) (resident_of a x)) where
  abbrev pub running : Machine
  running = with_part t (Tile_part x) m

  in_tiles : t < length m.tiles
  in_tiles = subst (λ n. t < n) (sym sound.tiles) ht

  -- a fact on each tile that holds of this one
  tiles_set : (P : ℕ → Tile → Type 0) (u : ℕ) → P u (tile_at u m) → (t ≡ u → P u x) → P u (tile_at u running)
  tiles_set P u have now = subst (P u) (sym (get_or-set m.tiles t u x (empty_tile u) in_tiles)) (by_test (t == u) refl)
    where
      by_test : (z : Bool) → (t == u) ≡ z → P u (cond z x (get_or m.tiles u (empty_tile u)))
      by_test true e = let s : t ≡ u = grind (arith, nat_tests, e) in now s
      by_test false e = have

  pub stays_run : (a u : ℕ) → Alike (resident_of a (tile_at u m)) (resident_of a (tile_at u running))
  stays_run a u =
      tiles_set (λ v y. Alike (resident_of a (tile_at v m)) (resident_of a y)) u (alike-itself (resident_of a (tile_at u m)))
      (λ e. subst (λ v. Alike (resident_of a (tile_at v m)) (resident_of a x)) e (stays a))

  here_old : current_act (tile_at t m) ≡ Some c.act
  here_old = ap act_in old

  here_new : current_act x ≡ Some c.act
  here_new = ap act_in new ∙ ap (λ n. Some n) same

  pub current_run : (u : ℕ) → current_act (tile_at u running) ≡ current_act (tile_at u m)
  current_run u =
      tiles_set (λ v y. current_act y ≡ current_act (tile_at v m)) u refl
      (λ e. subst (λ v. current_act x ≡ current_act (tile_at v m)) e (here_new ∙ sym here_old))

  -- ---- the ideal state

  swapped : Swaps c d (all_contexts m) (all_contexts running)
  swapped =
      let r = around_set tile_contexts (empty_tile t) m.tiles t in_tiles in
      let others = flat_map entry_contexts m.kernel.seats ++ flat_links contexts_in m.links in
      record {
        front = r.front;
        back = r.back ++ others;
        old = ap (λ l. l ++ others) (r.here ∙ ap (λ o. r.front ++ (option_list o ++ r.back)) old) ∙ append_assoc r.front (c ∷ r.back) others;
        new = ap (λ l. l ++ others) (r.there x ∙ ap (λ o. r.front ++ (option_list o ++ r.back)) new) ∙ append_assoc r.front (d ∷ r.back) others;
      }

  pub running_state : ideal_of running ≡ record (ideal_of m) { contexts = put_context d (ideal_of m).contexts }
  running_state =
      let contexts = swaps_state c d (all_contexts m) (all_contexts running) swapped same sound.acts in
      λ k. record {
        memory = m.memory;
        contexts = contexts k;
        flights = sorted_by_name (all_packets m);
        kernel_next = m.kernel.next;
        grants = closed_from 1 (all_closed m) m.kernel.grants;
      }

  pub running_places : placement_of h running ≡ placement_of h m
  running_places =
      let current : map current_act (set m.tiles t x) ≡ map current_act m.tiles =
      map-set current_act m.tiles t x
      ∙ ap (λ o. set (map current_act m.tiles) t o) (here_new ∙ sym here_old)
      ∙ sym (map-set current_act m.tiles t (tile_at t m))
      ∙ ap (map current_act) (set-get_or m.tiles t (empty_tile t)) in
      let actors = map-same (actor_in running) (actor_in m) (λ y. actor-alike y (entry_of y.act m.kernel) (resident_of y.act (tile_at y.tile m)) (resident_of y.act (tile_at y.tile running)) (stays_run y.act y.tile)) h.homes in
      λ k. record (placement_of h m) { current = current k; actors = actors k }

  -- ---- it is as sound

  pub running_sound : is_named_context h d ≡ true → MachineStructure h running
  running_sound named =
      let still : (a : ℕ) → Alike (resident_at h m.tiles a) (resident_at h running.tiles a) = λ a. stays_run a (tile_of h a) in
      record {
        setup = sound.setup;
        tiles = length-set m.tiles t x ∙ sound.tiles;
        links = sound.links;
        acts = swaps_apart c d (all_contexts m) (all_contexts running) swapped same sound.acts;
        known = λ a e. swaps_known c d (all_contexts m) (all_contexts running) swapped same sound.acts a (sound.known a e);
        named = swaps_each c d (all_contexts m) (all_contexts running) swapped same sound.acts (λ c. is_named_context h c ≡ true) sound.named named;
        names = sound.names;
        housed = record {
          seats = sound.housed.seats;
          tiles = λ u high. tiles_set (λ v y. y.tile ≡ v) u (sound.housed.tiles u high) (λ e. number ∙ sound.housed.tiles t ht ∙ e);
          stays = λ a e. there-alike (resident_at h m.tiles a) (resident_at h running.tiles a) (still a) (sound.housed.stays a e);
          current = λ u y e. tiles_set (λ v z. z.current ≡ Some y → HasHome h v y.act) u (sound.housed.current u y)
              (λ s e. subst (λ v. HasHome h v y.act) s (subst (HasHome h t) (act_of y e) (sound.housed.current t c old))) e;
        };
        parcels = λ a b ha hb. each_map (ParcelOk h m.kernel m.tiles a b) (ParcelOk h m.kernel running.tiles a b) (parcel-alike h m.kernel m.tiles running.tiles still a b) (link_at a b m) (sound.parcels a b ha hb);
        seated = record {
          seats = λ a y e. (seat-alike h m.tiles running.tiles still y y.seating (sound.seated.seats a y e).0, (sound.seated.seats a y e).1);
          filled = sound.seated.filled;
          leaving = sound.seated.leaving;
          departing = sound.seated.departing;
          walks = λ u low high. subst (λ o. CurrentAlongLink o (link_at 0 u m) (placed_on h u m.kernel)) (sym (current_run u)) (sound.seated.walks u low high);
          orderly = sound.seated.orderly;
        };
        closed = sound.closed;
        shut = sound.shut;
        holders = sound.holders;
      }
    where
      or_act : Option Context → ℕ
      or_act None = c.act
      or_act (Some z) = z.act

      act_of : (y : Context) → x.current ≡ Some y → c.act ≡ y.act
      act_of y e = sym same ∙ ap or_act (sym new ∙ e)
