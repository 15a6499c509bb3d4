-- The places of a machine in which one more home is seated, and then all.
use Rattle.std.proofs.Common.{◌≡◌, ℕ, ◌<◌, ◌≤◌, Bool, true, false, cond, List, [], ◌∷◌, ◌++◌, Some, None, refl, sym, subst, ◌∙◌, ap, arith, append_assoc, append-nil, set, length, map, Option}
use Rattle.std.specs.Prelude.{if◌then◌else◌, ◌==◌, ◌&&◌, is_some}
use Rattle.std.specs.List.{list_any}
use Rattle.std.proofs.lemmas.Bool.Decides.{nat_tests}
use Rattle.std.proofs.lemmas.List.{map-append, map-set, set-get_or}
use Rattle.m3_base.specs.Ideal.Context.{Context}
use Rattle.m3_base.specs.Ideal.State.{State, context_of, DistinctActs}
use Rattle.m3_base.specs.Placement.State as places_state
use Rattle.m3_base.specs.Placement.Opening as places_opening
use Rattle.m3_base.specs.Placement.State.{Placement}
use Rattle.m3_base.specs.Lists.EachElement.{Each}
use Rattle.m3_merge.proofs.StampBounds.{each_front, each_back}
use Rattle.m3_model.specs.Config.Site.{Home, Site}
use Rattle.m3_model.specs.Config.KnownActivities.{is_named_context}
use Rattle.m3_model.specs.Tile.Step.{resident_of, act_in}
use Rattle.m3_model.specs.Kernel.Step.{entry_act, entry_of}
use Rattle.m3_model.specs.Machine.{Machine, empty_tile, tile_at, new_stay, first_there, residency_at_opening, joined_ready, entry_at_opening, with_entries}
use Rattle.m3_model.specs.Abstraction.{actor_in, actor_by, current_act, link_token, placement_of}
use Rattle.m3_model.specs.Invariant.Housing.{IsPresent, HasHome}
use Rattle.m3_model.specs.Invariant.Scheduling.{has_home}
use Rattle.m3_refine.proofs.abstraction.OpeningLines.{home_in, its_context}
use Rattle.m3_refine.proofs.opening.PlaceOneByOne.{find_before, find_last, place_home, place_homes, SeatedSoFar}
use Rattle.m3_model.specs.Invariant.Distinct.{DistinctHomes}
use Rattle.m3_refine.proofs.abstraction.OpeningLines.{Has, its_is}
use Rattle.m3_refine.proofs.opening.HomesAndContexts.{Along, some_there}
use Rattle.m3_refine.proofs.opening.PlaceOne.{seated_one, seat_step}

any-homes : (m : Machine) (t : ℕ) (ds : List Home) → list_any (λ y. y.home == t) (map (actor_in m) ds) ≡ has_home t ds
any-homes m t [] = refl
any-homes m t (x ∷ ds) = let r = any-homes m t ds in grind (arith, r)

map-each : {X Y : Type 0} (f g : X → Y) (xs : List X) → Each (λ x. f x ≡ g x) xs → map f xs ≡ map g xs
map-each f g [] e = refl
map-each f g (x ∷ xs) e = λ k. e.0 k ∷ map-each f g xs e.1 k

each_both : {X : Type 0} (P Q R : X → Type 0) → ((x : X) → P x → Q x → R x) → (xs : List X) → Each P xs → Each Q xs → Each R xs
each_both P Q R f [] p q = tt
each_both P Q R f (x ∷ xs) p q = (f x p.0 q.0, each_both P Q R f xs p.1 q.1)

-- ready lists at opening
joined : (b : Bool) (t a : ℕ) (p : Placement) → list_any (λ c. c == a) (places_state.ready_at t p) ≡ false → places_state.join_ready b t a p ≡ record p { ready = joined_ready b t a p.ready }
joined false t a p e = refl
joined true t a p e = λ k. record p { ready = set p.ready t (by_test (list_any (λ c. c == a) (places_state.ready_at t p)) e k) }
  where
    by_test : (b : Bool) → b ≡ false → cond b (places_state.ready_at t p) (places_state.ready_at t p ++ a ∷ []) ≡ places_state.ready_at t p ++ a ∷ []
    by_test false e = refl
    by_test true e = absurd (cc)

-- the site with these homes alone
abbrev pub with_homes : Site → List Home → Site
with_homes h ds = record h { homes = ds }

module _ (h : Site) (s : State) (ds : List Home) (m : Machine) (j : SeatedSoFar h s ds m) (x : Home) (c : Context)
    (new : home_in x.act ds ≡ None) (high : x.tile < 16) (lives : HasHome h x.tile x.act)
    (its : its_context s.contexts x ≡ c) (act : c.act ≡ x.act) (absent : context_of c.act (map (its_context s.contexts) ds) ≡ None) (names : is_named_context h c ≡ true)
    (o : Option Context) (e : (tile_at x.tile m).current ≡ o) where
  abbrev n : Machine
  n = seated_one h s ds m j x c new high lives its act absent names o e

  next : SeatedSoFar h s (ds ++ x ∷ []) n
  next = seat_step h s ds m j x c new high lives its act absent names o e

  in_tiles : x.tile < length m.tiles
  in_tiles = subst (λ n. x.tile < n) (sym j.tiles) high

  abbrev P : Placement
  P = placement_of (with_homes h ds) m

  is_taken : list_any (λ y. y.home == x.tile) (placement_of (with_homes h ds) m).actors ≡ is_some o
  is_taken = any-homes m x.tile ds ∙ sym (j.taken x.tile) ∙ ap is_some e

  currents : (o : Option Context) → (tile_at x.tile m).current ≡ o
      → cond (is_some o) (map current_act m.tiles) (set (map current_act m.tiles) x.tile (Some x.act))
      ≡ map current_act (set m.tiles x.tile (record (tile_at x.tile m) { current = first_there o c; stays = (tile_at x.tile m).stays ++ new_stay x.act ∷ [] }))
  currents None f =
      ap (λ a. set (map current_act m.tiles) x.tile (Some a)) (sym act)
      ∙ sym (map-set current_act m.tiles x.tile (record (tile_at x.tile m) { current = Some c; stays = (tile_at x.tile m).stays ++ new_stay x.act ∷ [] }))
  currents (Some w) f =
      sym (
      map-set current_act m.tiles x.tile (record (tile_at x.tile m) { current = Some w; stays = (tile_at x.tile m).stays ++ new_stay x.act ∷ [] })
      ∙ ap (λ z. set (map current_act m.tiles) x.tile (act_in z)) (sym f)
      ∙ sym (map-set current_act m.tiles x.tile (tile_at x.tile m))
      ∙ ap (map current_act) (set-get_or m.tiles x.tile (empty_tile x.tile)))

  -- ---- actors

  seat_same : (y : Home) → IsPresent (entry_of y.act m.kernel) → entry_of y.act n.kernel ≡ entry_of y.act m.kernel
  seat_same y k = let q = some_there (entry_of y.act m.kernel) k in find_before entry_act y.act m.kernel.seats (record { act = x.act; seating = residency_at_opening o c; hold = [] }) q.0 q.1 ∙ sym q.1

  actors_same : map (actor_in n) ds ≡ map (actor_in m) ds
  actors_same =
      map-each (actor_in n) (actor_in m) ds (
      each_both (λ y. IsPresent (entry_of y.act m.kernel)) (λ y. (resident_of y.act (tile_at y.tile m) ≡ Some (new_stay y.act)) × (resident_of y.act (tile_at y.tile n) ≡ Some (new_stay y.act))) (λ y. actor_in n y ≡ actor_in m y)
      (λ y k q. (λ i. actor_by y (seat_same y k i) (resident_of y.act (tile_at y.tile n))) ∙ ap (actor_by y (entry_of y.act m.kernel)) (q.1 ∙ sym q.0)) ds j.seated
      (each_both (λ y. resident_of y.act (tile_at y.tile m) ≡ Some (new_stay y.act)) (λ y. resident_of y.act (tile_at y.tile n) ≡ Some (new_stay y.act))
      (λ y. (resident_of y.act (tile_at y.tile m) ≡ Some (new_stay y.act)) × (resident_of y.act (tile_at y.tile n) ≡ Some (new_stay y.act))) (λ y p q. (p, q)) ds j.stays
      (each_front (λ y. resident_of y.act (tile_at y.tile n) ≡ Some (new_stay y.act)) ds (x ∷ []) next.stays))
      )

  place_is : (o : Option Context) → places_state.Residency
  place_is o = if is_some o then places_state.Resting else places_state.Placed

  actor_new : actor_in n x ≡ places_opening.opened_actor x.act x.tile (if is_some o then places_state.Resting else places_state.Placed) x.has_program
  actor_new =
      ap (λ z. actor_by x z (resident_of x.act (tile_at x.tile n))) (find_last entry_act x.act m.kernel.seats (record { act = x.act; seating = residency_at_opening o c; hold = [] }) (j.unseated x.act new) refl)
      ∙ ap (actor_by x (Some (record { act = x.act; seating = residency_at_opening o c; hold = [] }))) (each_back (λ y. resident_of y.act (tile_at y.tile n) ≡ Some (new_stay y.act)) ds (x ∷ []) next.stays).0
      ∙ by_there o
    where
      by_there : (o : Option Context) → actor_by x (Some (record { act = x.act; seating = residency_at_opening o c; hold = [] })) (Some (new_stay x.act)) ≡ places_opening.opened_actor x.act x.tile (if is_some o then places_state.Resting else places_state.Placed) x.has_program
      by_there None = refl
      by_there (Some z) = refl

  pub place_step : placement_of (with_homes h (ds ++ x ∷ [])) n ≡ place_home (placement_of (with_homes h ds) m) x
  place_step =
      let b = is_some o in
      let start = record (placement_of (with_homes h ds) m) {
        current = cond b (map current_act m.tiles) (set (map current_act m.tiles) x.tile (Some x.act));
        actors = map (actor_in m) ds ++ places_opening.opened_actor x.act x.tile (if b then places_state.Resting else places_state.Placed) x.has_program ∷ [];
      } in
      let actors : map (actor_in n) (ds ++ x ∷ []) ≡ map (actor_in m) ds ++ places_opening.opened_actor x.act x.tile (if b then places_state.Resting else places_state.Placed) x.has_program ∷ [] =
      map-append (actor_in n) ds (x ∷ []) ∙ (λ k. actors_same k ++ actor_new k ∷ []) in
      let cur = sym (currents o e) in
      let go : placement_of (with_homes h (ds ++ x ∷ [])) n ≡ record start { ready = joined_ready (b && x.has_program) x.tile x.act m.kernel.ready } =
      (λ k. record {
        current = cur k;
        actors = actors k;
        links = map (λ xs. map link_token xs) m.links;
        ready = joined_ready (b && x.has_program) x.tile x.act m.kernel.ready;
        yielded = m.kernel.yielded;
        quantum = h.quantum;
      }) in
      go
      ∙ sym (joined (b && x.has_program) x.tile x.act start (j.unready x.act x.tile new))
      ∙ sym (ap (λ z. places_state.join_ready (z && x.has_program) x.tile x.act (record (placement_of (with_homes h ds) m) {
        current = cond z (map current_act m.tiles) (set (map current_act m.tiles) x.tile (Some x.act));
        actors = map (actor_in m) ds ++ places_opening.opened_actor x.act x.tile (if z then places_state.Resting else places_state.Placed) x.has_program ∷ [];
      })) is_taken)

  -- what was done is what the opening does
  pub done_is : entry_at_opening x c (tile_at x.tile m) m ≡ n
  done_is =
      ap (λ z. record m {
        tiles = set m.tiles x.tile (record (tile_at x.tile m) { current = first_there z c; stays = (tile_at x.tile m).stays ++ new_stay x.act ∷ [] });
        kernel = record m.kernel {
          seats = m.kernel.seats ++ record { act = x.act; seating = residency_at_opening z c; hold = [] } ∷ [];
          ready = joined_ready (is_some z && x.has_program) x.tile x.act m.kernel.ready;
        };
      }) e

  pub next_seated : SeatedSoFar h s (ds ++ x ∷ []) n
  next_seated = next

-- ---- all homes

pub home_front : (ds : List Home) (x : Home) (rest : List Home) → DistinctHomes (ds ++ x ∷ rest) → home_in x.act ds ≡ None
home_front [] x rest a = refl
home_front (y ∷ ds) x rest a = let d = other y.act ds x rest a.0 in let r = home_front ds x rest a.1 in grind (arith, nat_tests, d, r)
  where
    other : (a : ℕ) (ds : List Home) (x : Home) (rest : List Home) → home_in a (ds ++ x ∷ rest) ≡ None → (a == x.act) ≡ false
    other a [] x rest e = grind (arith, nat_tests, e)
    other a (z ∷ ds) x rest e = grind (arith, nat_tests, e, other a ds x rest)

pub home_there : (ds : List Home) (x : Home) (rest : List Home) → home_in x.act ds ≡ None → home_in x.act (ds ++ x ∷ rest) ≡ Some x
home_there [] x rest e = grind (arith, nat_tests)
home_there (y ∷ ds) x rest e = let r = home_there ds x rest in grind (arith, nat_tests, e, r)

act_front : (xs : List Context) (c : Context) (ys : List Context) → DistinctActs (xs ++ c ∷ ys) → context_of c.act xs ≡ None
act_front [] c ys a = refl
act_front (x ∷ xs) c ys a = let d = other x.act xs c ys a.0 in let r = act_front xs c ys a.1 in grind (arith, nat_tests, d, r)
  where
    other : (a : ℕ) (xs : List Context) (c : Context) (ys : List Context) → context_of a (xs ++ c ∷ ys) ≡ None → (a == c.act) ≡ false
    other a [] c ys e = grind (arith, nat_tests, e)
    other a (z ∷ xs) c ys e = grind (arith, nat_tests, e, other a xs c ys)

module _ (h : Site) (s : State) (l : Along h s h.homes) (high : Each (λ x. (2 ≤ x.tile) × (x.tile < 16)) h.homes) where
  abbrev pub AllSeated : List Home → Machine → List Home → Type 0
  AllSeated ds m rest =
      SeatedSoFar h s (ds ++ rest) (with_entries s m rest) × (placement_of (with_homes h (ds ++ rest)) (with_entries s m rest) ≡ place_homes (placement_of (with_homes h ds) m) rest)

  pub all_seated : (rest ds : List Home) (m : Machine) → ds ++ rest ≡ h.homes → SeatedSoFar h s ds m → AllSeated ds m rest
  all_seated [] ds m e j = subst (λ l. SeatedSoFar h s l m × (placement_of (with_homes h l) m ≡ placement_of (with_homes h ds) m)) (sym (append-nil ds)) (j, refl)
  all_seated (x ∷ rest) ds m e j =
      let cs = s.contexts in
      let homes : DistinctHomes (ds ++ x ∷ rest) = subst DistinctHomes (sym e) l.homes in
      let has : Has cs x = (each_back (Has cs) ds (x ∷ rest) (subst (Each (Has cs)) (sym e) l.has)).0 in
      let tile = (each_back (λ x. (2 ≤ x.tile) × (x.tile < 16)) ds (x ∷ rest) (subst (Each (λ x. (2 ≤ x.tile) × (x.tile < 16))) (sym e) high)).0 in
      let new = home_front ds x rest homes in
      let lives : HasHome h x.tile x.act = (x, ap (home_in x.act) (sym e) ∙ home_there ds x rest new, refl) in
      let c = has.context in
      let its : its_context cs x ≡ c = its_is cs x has in
      let apart : DistinctActs (map (its_context cs) ds ++ c ∷ map (its_context cs) rest) =
      subst DistinctActs (ap (map (its_context cs)) (sym e) ∙ map-append (its_context cs) ds (x ∷ rest) ∙ ap (λ z. map (its_context cs) ds ++ z ∷ map (its_context cs) rest) its) l.acts in
      let absent = act_front (map (its_context cs) ds) c (map (its_context cs) rest) apart in
      let names = l.named x.act c has.found in
      let o = (tile_at x.tile m).current in
      let n = seated_one h s ds m j x c new tile.1 lives its has.act absent names o refl in
      let step = next_seated h s ds m j x c new tile.1 lives its has.act absent names o refl in
      let place = place_step h s ds m j x c new tile.1 lives its has.act absent names o refl in
      let done : entry_at_opening x (its_context cs x) (tile_at x.tile m) m ≡ n = ap (λ z. entry_at_opening x z (tile_at x.tile m) m) its in
      let ih = all_seated rest (ds ++ x ∷ []) n (append_assoc ds (x ∷ []) rest ∙ e) step in
      let whole = append_assoc ds (x ∷ []) rest in
      let there : SeatedSoFar h s (ds ++ x ∷ rest) (with_entries s n rest) × (placement_of (with_homes h (ds ++ x ∷ rest)) (with_entries s n rest) ≡ place_homes (placement_of (with_homes h ds) m) (x ∷ rest)) = (
        subst (λ l. SeatedSoFar h s l (with_entries s n rest)) whole ih.0,
        subst (λ l. placement_of (with_homes h l) (with_entries s n rest) ≡ place_homes (placement_of (with_homes h ds) m) (x ∷ rest)) whole (ih.1 ∙ ap (λ p. place_homes p rest) place),
      ) in
      subst (λ k. SeatedSoFar h s (ds ++ x ∷ rest) (with_entries s k rest) × (placement_of (with_homes h (ds ++ x ∷ rest)) (with_entries s k rest) ≡ place_homes (placement_of (with_homes h ds) m) (x ∷ rest))) (sym done) there
