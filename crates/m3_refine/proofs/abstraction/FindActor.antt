-- The event in which a tile takes Save, whole: the ideal state stays, and the places go on as they are to.
use Rattle.std.proofs.Common.{◌≡◌, ℕ, zero, suc, ◌+◌, ◌*◌, ◌<◌, Bool, true, false, cond, List, [], ◌∷◌, ◌++◌, Some, None, refl, sym, subst, ◌∙◌, ap, arith, set, get_or, length, map}
use Rattle.std.specs.Prelude.{Option, ◌==◌, not, ◌&&◌, is_some}
use Rattle.std.proofs.lemmas.Bool.Decides.{nat_tests}
use Rattle.std.proofs.lemmas.List.{map-set, get_or-map, length-set}
use Rattle.m3_base.specs.declared.event.Event.{Event}
use Rattle.m3_base.specs.declared.event.Said.{Said}
use Rattle.m3_base.specs.Lists.Keyed as keyed
use Rattle.m3_base.specs.Ideal.Context.{Context}
use Rattle.m3_base.specs.Ideal.State.{context_of, new_context_in, same_act, DistinctActs}
use Rattle.m3_base.specs.Placement.Take as places_take
use Rattle.m3_base.specs.Placement.State as places_state
use Rattle.m3_base.specs.Placement.Landing as places_landing
use Rattle.m3_base.specs.Placement.State.{Placement, PlacedActivity, LinkToken, actor_act}
use Rattle.m3_base.specs.Placement.Step.{placement_step}
use Rattle.m3_model.specs.Config.Site.{Home, Site, home_act, home_of}
use Rattle.m3_model.specs.Parcel.{Parcel, Save, Saved}
use Rattle.m3_model.specs.Tile.State.{Resident, Tile}
use Rattle.m3_model.specs.Tile.Step.{with_current, resident_of, is_waiting_resident, unread_at}
use Rattle.m3_model.specs.Kernel.Step.{entry_of}
use Rattle.m3_model.specs.Machine.{Machine, Tile_part, empty_tile, tile_at, link_at, with_link, with_part, with_parcels}
use Rattle.m3_model.specs.Abstraction.{flat_map, flat_links, option_list, tile_contexts, entry_contexts, contexts_in, all_contexts, sorted_by_act, ideal_of, link_token, actor_in, actor_by, pending_in, current_act, placement_of}
use Rattle.m3_model.specs.Tile.Step.{has_ended as ended_in}
use Rattle.m3_refine.proofs.lists.Insertion.{Inserts, inserts_right, around_set, empties}
use Rattle.m3_refine.proofs.abstraction.MoveWithinMachine.{moved, by_act-inserts}
use Rattle.m3_refine.proofs.abstraction.MoveContext.{apart_inserts, saves_at}

-- ---- the context of the current activity, in the ideal state

apart-new : (a : ℕ) (c : Context) (cs : List Context) → (a == c.act) ≡ false → context_of a cs ≡ None → context_of a (new_context_in c cs) ≡ None
apart-new a c [] h k = grind (arith, nat_tests)
apart-new a c (x ∷ cs) h k = grind (arith, nat_tests, apart-new a c cs h)

pub apart-by_act : (a : ℕ) (xs : List Context) → context_of a xs ≡ None → context_of a (sorted_by_act xs) ≡ None
apart-by_act a [] h = refl
apart-by_act a (x ∷ xs) h = grind (arith, nat_tests, h, apart-by_act a xs, apart-new a x (sorted_by_act xs))

present-new : (a : ℕ) (c : Context) (cs : List Context) → (a == c.act) ≡ true → is_some (context_of a (new_context_in c cs)) ≡ true
present-new a c [] h = grind (arith, nat_tests, h)
present-new a c (x ∷ cs) h = grind (arith, nat_tests, h, present-new a c cs h)

stays-new : (a : ℕ) (c : Context) (cs : List Context) → is_some (context_of a cs) ≡ true → is_some (context_of a (new_context_in c cs)) ≡ true
stays-new a c [] h = absurd (cc)
stays-new a c (x ∷ cs) h = grind (arith, nat_tests, h, stays-new a c cs)

-- an activity that has a context has one in the ideal state
pub present-by_act : (a : ℕ) (xs : List Context) → is_some (context_of a xs) ≡ true → is_some (context_of a (sorted_by_act xs)) ≡ true
present-by_act a [] h = absurd (cc)
present-by_act a (x ∷ xs) h = by_test (a == x.act) refl h (present-by_act a xs)
  where
    by_test : (b : Bool) → (a == x.act) ≡ b → is_some (cond b (Some x) (context_of a xs)) ≡ true → (is_some (context_of a xs) ≡ true → is_some (context_of a (sorted_by_act xs)) ≡ true) → is_some (context_of a (new_context_in x (sorted_by_act xs))) ≡ true
    by_test true d k ih = present-new a x (sorted_by_act xs) d
    by_test false d k ih = stays-new a x (sorted_by_act xs) (ih k)

find-new : (c : Context) (cs : List Context) → context_of c.act cs ≡ None → context_of c.act (new_context_in c cs) ≡ Some c
find-new c [] h = grind (arith, nat_tests)
find-new c (x ∷ cs) h = grind (arith, nat_tests, find-new c cs)

pub context_at : (c : Context) (base xs : List Context) → Inserts c base xs → context_of c.act base ≡ None → context_of c.act (sorted_by_act xs) ≡ Some c
context_at c base xs h a =
    ap (context_of c.act) (by_act-inserts c base xs h a) ∙ find-new c (sorted_by_act base) (apart-by_act c.act base a)

-- ---- actors

none_is : (y : Home) → None ≡ Some y → ⊥
none_is y h = cc

module _ (m : Machine) where
  as_actor : Option Home → Option PlacedActivity
  as_actor None = None
  as_actor (Some x) = Some (actor_in m x)

  actor_by_test : (b : Bool) (x y : Home) (o : Option Home) (r : Option PlacedActivity) → cond b (Some x) o ≡ Some y → (o ≡ Some y → r ≡ Some (actor_in m y))
      → cond b (Some (actor_in m x)) r ≡ Some (actor_in m y)
  actor_by_test true x y o r h ih = ap (λ z. or_x z) h
    where
      or_x : Option Home → Option PlacedActivity
      or_x None = None
      or_x (Some z) = Some (actor_in m z)
  actor_by_test false x y o r h ih = ih h

  pub find_actor : (a : ℕ) (xs : List Home) (y : Home) → keyed.find home_act same_act a xs ≡ Some y → keyed.find actor_act same_act a (map (actor_in m) xs) ≡ Some (actor_in m y)
  find_actor a [] y h = absurd (none_is y h)
  find_actor a (x ∷ xs) y h =
      actor_by_test (a == x.act) x y (keyed.find home_act same_act a xs) (keyed.find actor_act same_act a (map (actor_in m) xs)) h (find_actor a xs y)

stays_set : (xs : List Tile) (t u : ℕ) (x d e : Tile) → x.stays ≡ (get_or xs t e).stays → (get_or (set xs t x) u d).stays ≡ (get_or xs u d).stays
stays_set [] t u x d e h = refl
stays_set (y ∷ xs) zero zero x d e h = h
stays_set (y ∷ xs) zero (suc u) x d e h = refl
stays_set (y ∷ xs) (suc t) zero x d e h = refl
stays_set (y ∷ xs) (suc t) (suc u) x d e h = stays_set xs t u x d e h

-- ---- tokens

abbrev pub tokens : List (List Parcel) → List (List LinkToken)
tokens xss = map (λ xs. map link_token xs) xss

map-back : (xs : List Parcel) (q : Parcel) → map link_token (xs ++ q ∷ []) ≡ map link_token xs ++ link_token q ∷ []
map-back [] q = refl
map-back (x ∷ xs) q = ap (λ l. link_token x ∷ l) (map-back xs q)

pub pushed_tokens : (links : List (List Parcel)) (j : ℕ) (q : Parcel) → j < length links
    → tokens (set links j (get_or links j [] ++ q ∷ [])) ≡ set (tokens links) j (get_or (tokens links) j [] ++ link_token q ∷ [])
pushed_tokens links j q h =
    map-set (λ xs. map link_token xs) links j (get_or links j [] ++ q ∷ [])
    ∙ ap (λ l. set (tokens links) j l) (map-back (get_or links j []) q)
    ∙ ap (λ l. set (tokens links) j (l ++ link_token q ∷ [])) (sym (get_or-map (λ xs. map link_token xs) links j [] [] h))

pub moved_tokens : (links : List (List Parcel)) (i j : ℕ) (rest : List Parcel) (q : Parcel) → j < length links
    → tokens (moved links i rest j q) ≡ set (set (tokens links) i (map link_token rest)) j (get_or (set (tokens links) i (map link_token rest)) j [] ++ link_token q ∷ [])
moved_tokens links i j rest q h =
    pushed_tokens (set links i rest) j q (subst (λ n. j < n) (sym (length-set links i rest)) h)
    ∙ ap (λ l. set l j (get_or l j [] ++ link_token q ∷ [])) (map-set (λ xs. map link_token xs) links i rest)

-- ---- what Saved tells

pub same_unread : (c : Context) (p : Option ℕ) → places_take.has_unread_at (Some c) p ≡ unread_at c p
same_unread c None = refl
same_unread c (Some ep) = refl

abbrev pub waits_by : Option Context → Option Resident → Bool
waits_by o st = is_some (pending_in st) && not (places_take.has_unread_at o (pending_in st))

pub told : (c : Context) (o : Option Context) (st : Option Resident) (z : Resident) → o ≡ Some c → st ≡ Some z → waits_by o st ≡ is_waiting_resident c (Some z)
told c o st z p q =
    ap (λ l. waits_by l st) p ∙ ap (λ l. waits_by (Some c) l) q ∙ ap (λ b. is_some z.pending && not b) (same_unread c z.pending)

-- ---- the event

module _ (h : Site) (m : Machine) (t from : ℕ) (ht : t < length m.tiles) (hi : 16 * from + t < length m.links) (hj : 16 * t + 0 < length m.links) where
  abbrev pub after_save : Context → Resident → List Parcel → Machine
  after_save c z rest =
      with_parcels t ((0, Saved c.act c (is_waiting_resident c (Some z)) z.ended) ∷ []) (with_part t (Tile_part (with_current None (tile_at t m))) (with_link from t rest m))

  actors_stay : (c : Context) (z : Resident) (rest : List Parcel) → map (actor_in (after_save c z rest)) h.homes ≡ map (actor_in m) h.homes
  actors_stay c z rest =
      λ k. map (λ x. actor_by x (entry_of x.act m.kernel) (keyed.find (λ (y : Resident). y.act) same_act x.act (stays_set m.tiles t x.tile (with_current None (tile_at t m)) (empty_tile x.tile) (empty_tile t) refl k))) h.homes

  -- what the places are then, as the definition of places says it
  abbrev pub saved_places : Context → Resident → List Parcel → Bool → Bool → Placement
  saved_places c z rest waiting ended =
      places_state.with_token t 0 (places_state.Saved c.act waiting ended) (places_state.with_current t None (places_state.with_link from t (map link_token rest) (placement_of h m)))

  places_go : (c : Context) (z : Resident) (rest : List Parcel) → saved_places c z rest (is_waiting_resident c (Some z)) z.ended ≡ placement_of h (after_save c z rest)
  places_go c z rest =
      let current : set (map current_act m.tiles) t None ≡ map current_act (set m.tiles t (with_current None (tile_at t m))) =
      sym (map-set current_act m.tiles t (with_current None (tile_at t m))) in
      let links = sym (moved_tokens m.links (16 * from + t) (16 * t + 0) rest (Saved c.act c (is_waiting_resident c (Some z)) z.ended) hj) in
      let actors = sym (actors_stay c z rest) in
      λ k. record {
        current = current k;
        actors = actors k;
        links = links k;
        ready = m.kernel.ready;
        yielded = m.kernel.yielded;
        quantum = h.quantum;
      }

  -- the tile takes Save: the ideal state stays, and the places are those of the machine that it leaves
  pub takes_save : (c : Context) (y : Home) (z : Resident) (rest : List Parcel) → (t == 0) ≡ false
      → link_at from t m ≡ Save c.act ∷ rest → (tile_at t m).current ≡ Some c → DistinctActs (all_contexts m)
      → home_of c.act h ≡ Some y → y.act ≡ c.act → resident_of y.act (tile_at y.tile m) ≡ Some z
      → placement_step (ideal_of m) (placement_of h m) (Event.Take t from) None
      ≡ Some (record { said = Said.Saving c.act; restore = None; state = ideal_of (after_save c z rest); places = placement_of h (after_save c z rest) })
  takes_save c y z rest t0 g e apart hy ya hz =
      let s = ideal_of m in
      let p = placement_of h m in
      let q = places_state.with_link from t (map link_token rest) p in
      let us = flat_map tile_contexts (set m.tiles t (with_current None (tile_at t m))) in
      let others = flat_map entry_contexts m.kernel.seats ++ flat_links contexts_in m.links in
      let before : Inserts c (us ++ others) (flat_map tile_contexts m.tiles ++ others) =
      inserts_right others c us (flat_map tile_contexts m.tiles) (
      empties tile_contexts (flat_map tile_contexts) (get_or m.tiles t (empty_tile t)) m.tiles (λ y. set m.tiles t y) c (with_current None (tile_at t m)) (around_set tile_contexts (empty_tile t) m.tiles t ht) (ap option_list e) refl
      ) in
      let found : context_of y.act s.contexts ≡ Some c =
      subst (λ a. context_of a s.contexts ≡ Some c) (sym ya) (
      context_at c (us ++ others) (flat_map tile_contexts m.tiles ++ others) before (apart_inserts c (us ++ others) (flat_map tile_contexts m.tiles ++ others) before apart)
      ) in
      let link : places_state.link from t p ≡ places_state.Save c.act ∷ map link_token rest =
      get_or-map (λ xs. map link_token xs) m.links (16 * from + t) [] [] hi ∙ ap (λ l. map link_token l) g in
      let actor : places_state.actor c.act q ≡ Some (actor_in m y) = find_actor m c.act h.homes y hy in
      let waiting : waits_by (context_of y.act s.contexts) (resident_of y.act (tile_at y.tile m)) ≡ is_waiting_resident c (Some z) =
      told c (context_of y.act s.contexts) (resident_of y.act (tile_at y.tile m)) z found hz in
      ap (λ l. places_take.take s p t from l) link
      ∙ ap (λ b. cond b (places_take.take_at_kernel s q (places_state.Save c.act)) (places_take.take_at_tile s q t (places_state.Save c.act))) t0
      ∙ ap (λ x. places_landing.step_outcome (Said.Saving c.act) s (places_state.with_token t 0 (places_state.Saved c.act (places_take.is_waiting s x) (places_take.has_ended x)) (places_state.with_current t None q))) actor
      ∙ ap (λ b. places_landing.step_outcome (Said.Saving c.act) s (saved_places c z rest b (ended_in (resident_of y.act (tile_at y.tile m))))) waiting
      ∙ ap (λ x. places_landing.step_outcome (Said.Saving c.act) s (saved_places c z rest (is_waiting_resident c (Some z)) (ended_in x))) hz
      ∙ ap (λ r. places_landing.step_outcome (Said.Saving c.act) s r) (places_go c z rest)
      ∙ ap (λ r. places_landing.step_outcome (Said.Saving c.act) r (placement_of h (after_save c z rest))) (sym (saves_at m t from ht hi hj c.act c (is_waiting_resident c (Some z)) z.ended rest g e apart))
