-- One more home is seated at opening.
use Rattle.std.proofs.Common.{◌≡◌, ℕ, ◌+◌, ◌<◌, Bool, true, false, cond, List, [], ◌∷◌, ◌++◌, Some, None, refl, sym, subst, ◌∙◌, ap, arith, append-nil, set, get_or, length, map, Option}
use Rattle.std.specs.Prelude.{◌==◌, not, ◌&&◌, ◌||◌, is_some}
use Rattle.std.specs.List.{list_any}
use Rattle.std.proofs.lemmas.Bool.Decides.{nat_tests}
use Rattle.std.proofs.lemmas.List.{map-append, length-set}
use Rattle.m3_base.specs.Lists.Counting.{one, how_many}
use Rattle.m3_base.specs.Ideal.Context.{Context}
use Rattle.m3_base.specs.Ideal.State.{State, context_of, new_context_in}
use Rattle.m3_base.specs.Lists.EachElement.{Each}
use Rattle.m3_merge.proofs.MergedIsRun.{each_append, each_map}
use Rattle.m3_model.specs.Config.Site.{Home, Site, home_act, tile_of, tile_in}
use Rattle.m3_model.specs.Tile.State.{Tile}
use Rattle.m3_model.specs.Kernel.State.{Is_placed, Is_resting, ActivityEntry, Kernel}
use Rattle.m3_model.specs.Config.KnownActivities.{is_named_context}
use Rattle.m3_model.specs.Tile.Step.{resident_act, resident_of, act_in}
use Rattle.m3_model.specs.Kernel.Step.{entry_act, entry_of, placed_at}
use Rattle.m3_model.specs.Machine.{Machine, empty_tile, tile_at, new_stay, first_there, residency_at_opening, joined_ready}
use Rattle.m3_model.specs.Abstraction.{flat_map, flat_links, option_list, tile_contexts, entry_contexts, contexts_in, all_contexts, sorted_by_act}
use Rattle.m3_model.specs.Invariant.Housing.{IsPresent, HasHome}
use Rattle.m3_model.specs.Invariant.LinkWalk.{act_of_entry, placed_on}
use Rattle.m3_model.specs.Invariant.Scheduling.{is_placed_at, has_home}
use Rattle.m3_refine.proofs.lists.Insertion.{Inserts, inserts_left, inserts_right, around_set, fills, alike, each-append}
use Rattle.m3_refine.proofs.abstraction.MoveWithinMachine.{by_act-inserts, by_act-middle}
use Rattle.m3_refine.proofs.abstraction.FindActor.{apart-by_act}
use Rattle.m3_refine.proofs.lists.Update.{get_or-set}
use Rattle.m3_refine.proofs.abstraction.OpeningLines.{home_in, its_context, acts_back}
use Rattle.m3_refine.proofs.opening.PlaceOneByOne.{find_before, find_last, find_none, any-append, home_parts, OpenSeat, SeatedSoFar, apart_joins, each_joins, placed-append}
use Rattle.m3_refine.proofs.opening.HomesAndContexts.{some_there, there_by}
use Rattle.m3_base.proofs.Counting.{how_many-append}

module _ (h : Site) (s : State) (ds : List Home) (m : Machine) (j : SeatedSoFar h s ds m) (x : Home) (c : Context)
    (new : home_in x.act ds ≡ None) (high : x.tile < 16) (lives : HasHome h x.tile x.act)
    (its : its_context s.contexts x ≡ c) (act : c.act ≡ x.act) (absent : context_of c.act (map (its_context s.contexts) ds) ≡ None) (names : is_named_context h c ≡ true)
    (o : Option Context) (e : (tile_at x.tile m).current ≡ o) where
  abbrev tile' : Tile
  tile' = record (tile_at x.tile m) { current = first_there o c; stays = (tile_at x.tile m).stays ++ new_stay x.act ∷ [] }

  abbrev seat' : ActivityEntry
  seat' = record { act = x.act; seating = residency_at_opening o c; hold = [] }

  abbrev kernel' : Kernel
  kernel' =
      record m.kernel {
        seats = m.kernel.seats ++ record { act = x.act; seating = residency_at_opening o c; hold = [] } ∷ [];
        ready = joined_ready (is_some o && x.has_program) x.tile x.act m.kernel.ready;
      }

  abbrev pub seated_one : Machine
  seated_one =
      record m {
        tiles = set m.tiles x.tile (record (tile_at x.tile m) { current = first_there o c; stays = (tile_at x.tile m).stays ++ new_stay x.act ∷ [] });
        kernel = record m.kernel {
          seats = m.kernel.seats ++ record { act = x.act; seating = residency_at_opening o c; hold = [] } ∷ [];
          ready = joined_ready (is_some o && x.has_program) x.tile x.act m.kernel.ready;
        };
      }

  in_tiles : x.tile < length m.tiles
  in_tiles = subst (λ n. x.tile < n) (sym j.tiles) high

  tile_by : (P : ℕ → Tile → Type 0) (u : ℕ) → ((x.tile == u) ≡ false → P u (tile_at u m)) → (x.tile ≡ u → P u tile') → P u (tile_at u seated_one)
  tile_by P u have now = subst (P u) (sym (get_or-set m.tiles x.tile u tile' (empty_tile u) in_tiles)) (by_test (x.tile == u) refl)
    where
      by_test : (z : Bool) → (x.tile == u) ≡ z → P u (cond z tile' (get_or m.tiles u (empty_tile u)))
      by_test true k = now (grind (arith, nat_tests, k))
      by_test false k = have k

  tile_set : (P : ℕ → Tile → Type 0) (u : ℕ) → P u (tile_at u m) → (x.tile ≡ u → P u tile') → P u (tile_at u seated_one)
  tile_set P u have now = tile_by P u (λ d. have) now

  -- ---- contexts

  inserts : Inserts c (all_contexts m) (all_contexts seated_one)
  inserts = by_there o e
    where
      A : List Context
      A = flat_map entry_contexts m.kernel.seats

      by_there : (o : Option Context) → (tile_at x.tile m).current ≡ o
          → Inserts c (flat_map tile_contexts m.tiles ++ (flat_map entry_contexts m.kernel.seats ++ flat_links contexts_in m.links))
          (flat_map tile_contexts (set m.tiles x.tile (record (tile_at x.tile m) { current = first_there o c; stays = (tile_at x.tile m).stays ++ new_stay x.act ∷ [] }))
          ++ (flat_map entry_contexts (m.kernel.seats ++ record { act = x.act; seating = residency_at_opening o c; hold = [] } ∷ []) ++ flat_links contexts_in m.links))
      by_there None f =
          let y : Tile = record (tile_at x.tile m) { current = Some c; stays = (tile_at x.tile m).stays ++ new_stay x.act ∷ [] } in
          let z : ActivityEntry = record { act = x.act; seating = Is_placed; hold = [] } in
          let L = flat_links contexts_in m.links in
          let T = fills tile_contexts (flat_map tile_contexts) (get_or m.tiles x.tile (empty_tile x.tile)) m.tiles (λ y. set m.tiles x.tile y) c y (around_set tile_contexts (empty_tile x.tile) m.tiles x.tile in_tiles) (ap option_list f) refl in
          let same : flat_map entry_contexts (m.kernel.seats ++ z ∷ []) ≡ flat_map entry_contexts m.kernel.seats = each-append entry_contexts m.kernel.seats (z ∷ []) ∙ append-nil (flat_map entry_contexts m.kernel.seats) in
          subst (λ l. Inserts c (flat_map tile_contexts m.tiles ++ (flat_map entry_contexts m.kernel.seats ++ L)) (flat_map tile_contexts (set m.tiles x.tile y) ++ (l ++ L))) (sym same)
          (inserts_right (flat_map entry_contexts m.kernel.seats ++ L) c (flat_map tile_contexts m.tiles) (flat_map tile_contexts (set m.tiles x.tile y)) T)
      by_there (Some w) f =
          let y : Tile = record (tile_at x.tile m) { current = Some w; stays = (tile_at x.tile m).stays ++ new_stay x.act ∷ [] } in
          let z : ActivityEntry = record { act = x.act; seating = Is_resting (record { context = c; heard = []; ended = false }); hold = [] } in
          let L = flat_links contexts_in m.links in
          let same : flat_map tile_contexts (set m.tiles x.tile y) ≡ flat_map tile_contexts m.tiles =
          alike tile_contexts (flat_map tile_contexts) (get_or m.tiles x.tile (empty_tile x.tile)) m.tiles (λ y. set m.tiles x.tile y) y (around_set tile_contexts (empty_tile x.tile) m.tiles x.tile in_tiles) (ap option_list f) in
          let S : Inserts c (flat_map entry_contexts m.kernel.seats) (flat_map entry_contexts (m.kernel.seats ++ z ∷ [])) =
          record { front = flat_map entry_contexts m.kernel.seats; back = []; without = sym (append-nil (flat_map entry_contexts m.kernel.seats)); whole = each-append entry_contexts m.kernel.seats (z ∷ []) } in
          subst (λ l. Inserts c (flat_map tile_contexts m.tiles ++ (flat_map entry_contexts m.kernel.seats ++ L)) (l ++ (flat_map entry_contexts (m.kernel.seats ++ z ∷ []) ++ L))) (sym same)
          (inserts_left (flat_map tile_contexts m.tiles) c (flat_map entry_contexts m.kernel.seats ++ L) (flat_map entry_contexts (m.kernel.seats ++ z ∷ []) ++ L) (inserts_right L c (flat_map entry_contexts m.kernel.seats) (flat_map entry_contexts (m.kernel.seats ++ z ∷ [])) S))

  unmet : context_of c.act (all_contexts m) ≡ None
  unmet = acts_back c.act (all_contexts m) (ap (context_of c.act) j.contexts ∙ apart-by_act c.act (map (its_context s.contexts) ds) absent)

  contexts' : sorted_by_act (all_contexts seated_one) ≡ sorted_by_act (map (its_context s.contexts) (ds ++ x ∷ []))
  contexts' =
      let xs = map (its_context s.contexts) ds in
      by_act-inserts c (all_contexts m) (all_contexts seated_one) inserts unmet
      ∙ ap (new_context_in c) j.contexts
      ∙ ap (λ l. new_context_in c (sorted_by_act l)) (sym (append-nil xs))
      ∙ sym (by_act-middle xs c [] absent)
      ∙ ap (λ d. sorted_by_act (xs ++ d ∷ [])) (sym its)
      ∙ ap sorted_by_act (sym (map-append (its_context s.contexts) ds (x ∷ [])))

  -- ---- stays

  stays_kept : (u : ℕ) (y : Home) → y.tile ≡ u → resident_of y.act (tile_at u m) ≡ Some (new_stay y.act) → resident_of y.act (tile_at u seated_one) ≡ Some (new_stay y.act)
  stays_kept u y k f =
      tile_set (λ v z. resident_of y.act z ≡ Some (new_stay y.act)) u f
      (λ d. find_before resident_act y.act (tile_at x.tile m).stays (new_stay x.act) (new_stay y.act) (subst (λ v. resident_of y.act (tile_at v m) ≡ Some (new_stay y.act)) (sym d) f))

  stay_new : resident_of x.act (tile_at x.tile seated_one) ≡ Some (new_stay x.act)
  stay_new =
      subst (λ z. resident_of x.act z ≡ Some (new_stay x.act)) (sym (get_or-set m.tiles x.tile x.tile tile' (empty_tile x.tile) in_tiles))
      (by_same (x.tile == x.tile) (grind (arith, nat_tests)))
    where
      by_same : (b : Bool) → b ≡ true → resident_of x.act (cond b tile' (get_or m.tiles x.tile (empty_tile x.tile))) ≡ Some (new_stay x.act)
      by_same true k = find_last resident_act x.act (tile_at x.tile m).stays (new_stay x.act) (j.unstayed x.act x.tile new) refl
      by_same false k = absurd (cc)

  unstayed' : (a t : ℕ) → home_in a (ds ++ x ∷ []) ≡ None → resident_of a (tile_at t seated_one) ≡ None
  unstayed' a t k =
      let p = home_parts a ds x k in
      tile_set (λ v z. resident_of a z ≡ None) t (j.unstayed a t p.0)
      (λ d. find_none resident_act a (tile_at x.tile m).stays (new_stay x.act) (j.unstayed a x.tile p.0) p.1)

  -- ---- ready lists

  unready' : (a t : ℕ) → home_in a (ds ++ x ∷ []) ≡ None → list_any (λ b. b == a) (get_or kernel'.ready t []) ≡ false
  unready' a t k = by_join (is_some o && x.has_program)
    where
      p : (home_in a ds ≡ None) × ((a == x.act) ≡ false)
      p = home_parts a ds x k

      old : (t : ℕ) → list_any (λ b. b == a) (get_or m.kernel.ready t []) ≡ false
      old t = j.unready a t p.0

      in_ready : x.tile < length m.kernel.ready
      in_ready = subst (λ n. x.tile < n) (sym j.readies) high

      by_join : (b : Bool) → list_any (λ b. b == a) (get_or (joined_ready b x.tile x.act m.kernel.ready) t []) ≡ false
      by_join false = old t
      by_join true =
          subst (λ l. list_any (λ b. b == a) l ≡ false) (sym (get_or-set m.kernel.ready x.tile t (get_or m.kernel.ready x.tile [] ++ x.act ∷ []) [] in_ready)) (by_test (x.tile == t))
        where
          by_test : (z : Bool) → list_any (λ b. b == a) (cond z (get_or m.kernel.ready x.tile [] ++ x.act ∷ []) (get_or m.kernel.ready t [])) ≡ false
          by_test true =
              any-append (λ b. b == a) (get_or m.kernel.ready x.tile []) x.act
              ∙ ap (λ b. b || (x.act == a)) (old x.tile)
              ∙ (let d = p.1 in let r : (x.act == a) ≡ false = grind (arith, nat_tests, d) in ap (λ b. false || b) r)
          by_test false = old t

  length_joined : length kernel'.ready ≡ 16
  length_joined = by_join (is_some o && x.has_program)
    where
      by_join : (b : Bool) → length (joined_ready b x.tile x.act m.kernel.ready) ≡ 16
      by_join true = length-set m.kernel.ready x.tile (get_or m.kernel.ready x.tile [] ++ x.act ∷ []) ∙ j.readies
      by_join false = j.readies

  -- ---- who is where

  taken' : (t : ℕ) → is_some (tile_at t seated_one).current ≡ has_home t (ds ++ x ∷ [])
  taken' t =
      tile_by (λ v z. is_some z.current ≡ (has_home v ds || (x.tile == v))) t
      (λ d. j.taken t ∙ (let z = d in grind (arith, z))) (λ d. by_there o ∙ (let r : (x.tile == t) ≡ true = grind (arith, nat_tests, d) in grind (arith, r)))
      ∙ sym (any-append (λ y. y.tile == t) ds x)
    where
      by_there : (o : Option Context) → is_some (first_there o c) ≡ true
      by_there None = refl
      by_there (Some z) = refl

  current' : (t : ℕ) (d : Context) → (tile_at t seated_one).current ≡ Some d → HasHome h t d.act
  current' t d f = tile_by (λ v z. z.current ≡ Some d → HasHome h v d.act) t (λ k. j.current t d) (λ k. subst (λ v. first_there o c ≡ Some d → HasHome h v d.act) k (by_there o e)) f
    where
      by_there : (o : Option Context) → (tile_at x.tile m).current ≡ o → first_there o c ≡ Some d → HasHome h x.tile d.act
      by_there None g k = let q : c ≡ d = cc in subst (HasHome h x.tile) (sym act ∙ ap (λ w. w.act) q) lives
      by_there (Some z) g k = j.current x.tile d (g ∙ k)

  -- the new one is placed just where nobody is there
  tile_is : tile_of h x.act ≡ x.tile
  tile_is = ap tile_in lives.1 ∙ lives.2

  placed_new : (t : ℕ) (o : Option Context) → is_placed_at h t (record { act = x.act; seating = residency_at_opening o c; hold = [] }) ≡ ((x.tile == t) && not (is_some o))
  placed_new t None = ap (λ n. (n == t) && true) tile_is
  placed_new t (Some z) = ap (λ n. (n == t) && false) tile_is

  seat_then : Option ActivityEntry → Bool → Option ActivityEntry → Option ℕ
  seat_then o b z = act_of_entry (cond (is_some o) o (cond b z None))

  placed' : (t : ℕ) → act_in (tile_at t seated_one).current ≡ placed_on h t kernel'
  placed' t =
      tile_by (λ v z. act_in z.current ≡ act_of_entry (cond (is_some (placed_at h v m.kernel.seats)) (placed_at h v m.kernel.seats) (cond ((x.tile == v) && not (is_some o)) (Some seat') None))) t
      (λ d. j.placed t ∙ by_old (placed_at h t m.kernel.seats) d)
      (λ d. subst (λ v. act_in (first_there o c) ≡ act_of_entry (cond (is_some (placed_at h v m.kernel.seats)) (placed_at h v m.kernel.seats) (cond ((x.tile == v) && not (is_some o)) (Some seat') None))) d here')
      ∙ ap (λ b. act_of_entry (cond (is_some (placed_at h t m.kernel.seats)) (placed_at h t m.kernel.seats) (cond b (Some seat') None))) (sym (placed_new t o))
      ∙ sym (ap act_of_entry (placed-append h t m.kernel.seats seat' (placed_at h t m.kernel.seats) refl))
    where
      by_old : (q : Option ActivityEntry) → (x.tile == t) ≡ false → act_of_entry q ≡ act_of_entry (cond (is_some q) q (cond ((x.tile == t) && not (is_some o)) (Some seat') None))
      by_old (Some y) d = refl
      by_old None d = ap (λ b. act_of_entry (cond (b && not (is_some o)) (Some seat') None)) (sym d)

      by_here : (o : Option Context) (q : Option ActivityEntry) → act_in o ≡ act_of_entry q → (b : Bool) → b ≡ true
          → act_in (first_there o c) ≡ act_of_entry (cond (is_some q) q (cond (b && not (is_some o)) (Some (record { act = x.act; seating = residency_at_opening o c; hold = [] })) None))
      by_here None None k true d = ap (λ n. Some n) act
      by_here None (Some y) k b d = absurd (cc)
      by_here (Some z) None k b d = absurd (cc)
      by_here (Some z) (Some y) k b d = k
      by_here None None k false d = absurd (cc)

      here' : act_in (first_there o c) ≡ act_of_entry (cond (is_some (placed_at h x.tile m.kernel.seats)) (placed_at h x.tile m.kernel.seats) (cond ((x.tile == x.tile) && not (is_some o)) (Some seat') None))
      here' = by_here o (placed_at h x.tile m.kernel.seats) (ap act_in (sym e) ∙ j.placed x.tile) (x.tile == x.tile) (grind (arith, nat_tests))

  filled' : (t : ℕ) → how_many (is_placed_at h t) kernel'.seats ≡ one (has_home t (ds ++ x ∷ []))
  filled' t =
      how_many-append (is_placed_at h t) m.kernel.seats (seat' ∷ [])
      ∙ ap (λ n. n + (one (is_placed_at h t seat') + 0)) (j.filled t)
      ∙ ap (λ b. one (has_home t ds) + (one b + 0)) (placed_new t o)
      ∙ by_tile (x.tile == t) refl
      ∙ ap one (sym (any-append (λ y. y.tile == t) ds x))
    where
      there_is : is_some o ≡ has_home x.tile ds
      there_is = ap is_some (sym e) ∙ j.taken x.tile

      sums : (b d : Bool) → b ≡ d → one b + (one (true && not d) + 0) ≡ one (b || true)
      sums true true k = refl
      sums false false k = refl
      sums true false k = absurd (cc)
      sums false true k = absurd (cc)

      by_tile : (b : Bool) → (x.tile == t) ≡ b → one (has_home t ds) + (one (b && not (is_some o)) + 0) ≡ one (has_home t ds || b)
      by_tile true d =
          let k : x.tile ≡ t = grind (arith, nat_tests, d) in
          sums (has_home t ds) (is_some o) (sym (there_is ∙ ap (λ n. has_home n ds) k))
      by_tile false d = by_has (has_home t ds)
        where
          by_has : (b : Bool) → one b + (one false + 0) ≡ one (b || false)
          by_has true = refl
          by_has false = refl

  seated' : Each (λ y. IsPresent (entry_of y.act kernel')) (ds ++ x ∷ [])
  seated' =
      each_append (λ y. IsPresent (entry_of y.act kernel')) ds (x ∷ [])
      (each_map (λ y. IsPresent (entry_of y.act m.kernel)) (λ y. IsPresent (entry_of y.act kernel'))
      (λ y k. let q = some_there (entry_of y.act m.kernel) k in there_by (entry_of y.act kernel') q.0 (find_before entry_act y.act m.kernel.seats seat' q.0 q.1)) ds j.seated)
      (there_by (entry_of x.act kernel') seat' (find_last entry_act x.act m.kernel.seats seat' (j.unseated x.act new) refl), tt)

  unseated' : (a : ℕ) → home_in a (ds ++ x ∷ []) ≡ None → entry_of a kernel' ≡ None
  unseated' a k = let p = home_parts a ds x k in find_none entry_act a m.kernel.seats seat' (j.unseated a p.0) p.1

  opens' : Each OpenSeat kernel'.seats
  opens' = each_append OpenSeat m.kernel.seats (seat' ∷ []) j.opens (by_there o, tt)
    where
      by_there : (o : Option Context) → OpenSeat (record { act = x.act; seating = residency_at_opening o c; hold = [] })
      by_there None = (refl, tt)
      by_there (Some z) = (refl, (act, refl))

  pub seat_step : SeatedSoFar h s (ds ++ x ∷ []) seated_one
  seat_step =
      record {
        tiles = length-set m.tiles x.tile tile' ∙ j.tiles;
        readies = length_joined;
        memory = j.memory;
        links = j.links;
        next = j.next;
        grants = j.grants;
        number = λ t k. tile_set (λ v z. z.tile ≡ v) t (j.number t k) (λ d. j.number x.tile high ∙ d);
        seats = map-append entry_act m.kernel.seats (seat' ∷ []) ∙ ap (λ l. l ++ x.act ∷ []) j.seats ∙ sym (map-append home_act ds (x ∷ []));
        seated = seated';
        unseated = unseated';
        opens = opens';
        contexts = contexts';
        acts = apart_joins c (all_contexts m) (all_contexts seated_one) inserts unmet j.acts;
        named = each_joins (λ c. is_named_context h c ≡ true) c (all_contexts m) (all_contexts seated_one) inserts names j.named;
        stays = each_append (λ y. resident_of y.act (tile_at y.tile seated_one) ≡ Some (new_stay y.act)) ds (x ∷ [])
            (each_map (λ y. resident_of y.act (tile_at y.tile m) ≡ Some (new_stay y.act)) (λ y. resident_of y.act (tile_at y.tile seated_one) ≡ Some (new_stay y.act)) (λ y k. stays_kept y.tile y refl k) ds j.stays)
            (stay_new, tt);
        unstayed = unstayed';
        unready = unready';
        taken = taken';
        current = current';
        placed = placed';
        filled = filled';
      }
