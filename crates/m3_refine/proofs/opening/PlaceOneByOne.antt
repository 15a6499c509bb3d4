-- At opening the activities are seated one after the other.
use Rattle.std.proofs.Common.{◌≡◌, ℕ, ◌<◌, Bool, true, false, cond, List, [], ◌∷◌, ◌++◌, Some, None, refl, sym, subst, arith, set, get_or, length, map, replicate, Option}
use Rattle.std.specs.Prelude.{if◌then◌else◌, ◌==◌, ◌&&◌, ◌||◌, is_some}
use Rattle.std.specs.List.{list_any}
use Rattle.std.proofs.lemmas.Bool.Decides.{nat_tests}
use Rattle.m3_base.specs.Lists.Keyed as keyed
use Rattle.m3_base.specs.Lists.Counting.{one, how_many}
use Rattle.m3_base.specs.Ideal.Context.{Context}
use Rattle.m3_base.specs.Ideal.State.{State, context_of, same_act, DistinctActs}
use Rattle.m3_base.specs.Placement.State as places_state
use Rattle.m3_base.specs.Placement.Opening as places_opening
use Rattle.m3_base.specs.Placement.State.{Placement}
use Rattle.m3_base.specs.Lists.EachElement.{Each}
use Rattle.m3_merge.proofs.MergedIsRun.{each_append}
use Rattle.m3_merge.proofs.StampBounds.{each_front, each_back}
use Rattle.m3_model.specs.Config.Site.{Home, Site, home_act}
use Rattle.m3_model.specs.Kernel.State.{EntryResidency, Is_placed, Is_leaving, Is_resting, Is_coming, ActivityEntry}
use Rattle.m3_model.specs.Config.KnownActivities.{is_named_context}
use Rattle.m3_model.specs.Tile.Step.{resident_of, act_in}
use Rattle.m3_model.specs.Kernel.Step.{entry_act, entry_of, placed_at}
use Rattle.m3_model.specs.Machine.{Machine, tile_at, new_stay}
use Rattle.m3_model.specs.Abstraction.{all_contexts, sorted_by_act}
use Rattle.m3_model.specs.Invariant.Housing.{IsPresent, HasHome}
use Rattle.m3_model.specs.Invariant.LinkWalk.{placed_on}
use Rattle.m3_model.specs.Invariant.Scheduling.{is_placed_at, has_home}
use Rattle.m3_refine.proofs.lists.Insertion.{Inserts}
use Rattle.m3_refine.proofs.abstraction.MoveContext.{apart_add}
use Rattle.m3_refine.proofs.abstraction.OpeningLines.{home_in, its_context}

-- ---- lists by key that grow at the back

module _ {X : Type 0} (key : X → ℕ) where
  at_key : ℕ → List X → Option X
  at_key = keyed.find key same_act

  pub find_before : (a : ℕ) (xs : List X) (x y : X) → keyed.find key same_act a xs ≡ Some y → keyed.find key same_act a (xs ++ x ∷ []) ≡ Some y
  find_before a [] x y e = absurd (cc)
  find_before a (z ∷ xs) x y e = let r = find_before a xs x y in grind (arith, e, r)

  pub find_last : (a : ℕ) (xs : List X) (x : X) → keyed.find key same_act a xs ≡ None → a ≡ key x → keyed.find key same_act a (xs ++ x ∷ []) ≡ Some x
  find_last a [] x e k = grind (arith, nat_tests, k)
  find_last a (z ∷ xs) x e k = let r = find_last a xs x in grind (arith, e, k, r)

  pub find_none : (a : ℕ) (xs : List X) (x : X) → keyed.find key same_act a xs ≡ None → (a == key x) ≡ false → keyed.find key same_act a (xs ++ x ∷ []) ≡ None
  find_none a [] x e d = grind (arith, nat_tests, d)
  find_none a (z ∷ xs) x e d = let r = find_none a xs x in grind (arith, e, d, r)

pub any-append : {X : Type 0} (p : X → Bool) (xs : List X) (x : X) → list_any p (xs ++ x ∷ []) ≡ (list_any p xs || p x)
any-append p [] x = grind arith
any-append p (y ∷ xs) x = let r = any-append p xs x in grind (arith, r)

pub home_parts : (a : ℕ) (ds : List Home) (x : Home) → home_in a (ds ++ x ∷ []) ≡ None → (home_in a ds ≡ None) × ((a == x.act) ≡ false)
home_parts a [] x e = (refl, grind (arith, nat_tests, e))
home_parts a (y ∷ ds) x e = let r = home_parts a ds x in (grind (arith, nat_tests, e, r), grind (arith, nat_tests, e, r))

-- ---- the machine with some homes seated

abbrev pub OpenSeating : ℕ → EntryResidency → Type 0
OpenSeating a Is_placed = Unit {0}
OpenSeating a Is_leaving = ⊥
OpenSeating a (Is_resting y) = (y.context.act ≡ a) × (y.ended ≡ false)
OpenSeating a (Is_coming y) = ⊥

abbrev pub OpenSeat : ActivityEntry → Type 0
OpenSeat x = (x.hold ≡ []) × OpenSeating x.act x.seating

-- one more home, as the places have it
abbrev pub place_home : Placement → Home → Placement
place_home p x =
    let taken = list_any (λ y. y.home == x.tile) p.actors in
    places_state.join_ready (taken && x.has_program) x.tile x.act (
    record p {
      current = if taken then p.current else set p.current x.tile (Some x.act);
      actors = p.actors ++ places_opening.opened_actor x.act x.tile (places_opening.place_at_opening x.tile p.actors) x.has_program ∷ [];
    }
    )

abbrev pub place_homes : Placement → List Home → Placement
place_homes p [] = p
place_homes p (x ∷ xs) = place_homes (place_home p x) xs

pub record SeatedSoFar (h : Site) (s : State) (ds : List Home) (m : Machine) : Type 0 where
  pub tiles : length m.tiles ≡ 16
  pub readies : length m.kernel.ready ≡ 16
  pub memory : m.memory ≡ s.memory
  pub links : m.links ≡ replicate 256 []
  pub next : m.kernel.next ≡ s.kernel_next
  pub grants : m.kernel.grants ≡ s.grants
  pub number : (t : ℕ) → t < 16 → (tile_at t m).tile ≡ t
  pub seats : map entry_act m.kernel.seats ≡ map home_act ds
  pub seated : Each (λ y. IsPresent (entry_of y.act m.kernel)) ds
  pub unseated : (a : ℕ) → home_in a ds ≡ None → entry_of a m.kernel ≡ None
  pub opens : Each OpenSeat m.kernel.seats
  pub contexts : sorted_by_act (all_contexts m) ≡ sorted_by_act (map (its_context s.contexts) ds)
  pub acts : DistinctActs (all_contexts m)
  pub named : Each (λ c. is_named_context h c ≡ true) (all_contexts m)
  pub stays : Each (λ y. resident_of y.act (tile_at y.tile m) ≡ Some (new_stay y.act)) ds
  pub unstayed : (a t : ℕ) → home_in a ds ≡ None → resident_of a (tile_at t m) ≡ None
  pub unready : (a t : ℕ) → home_in a ds ≡ None → list_any (λ b. b == a) (get_or m.kernel.ready t []) ≡ false
  pub taken : (t : ℕ) → is_some (tile_at t m).current ≡ has_home t ds
  pub current : (t : ℕ) (c : Context) → (tile_at t m).current ≡ Some c → HasHome h t c.act
  pub placed : (t : ℕ) → act_in (tile_at t m).current ≡ placed_on h t m.kernel
  pub filled : (t : ℕ) → how_many (is_placed_at h t) m.kernel.seats ≡ one (has_home t ds)

-- ---- one more

pub apart_joins : (c : Context) (xs ys : List Context) → Inserts c xs ys → context_of c.act xs ≡ None → DistinctActs xs → DistinctActs ys
apart_joins c xs ys i e a =
    subst DistinctActs (sym i.whole) (apart_add i.front c i.back (subst (λ l. context_of c.act l ≡ None) i.without e) (subst DistinctActs i.without a))

pub each_joins : (P : Context → Type 0) (c : Context) (xs ys : List Context) → Inserts c xs ys → P c → Each P xs → Each P ys
each_joins P c xs ys i k e =
    let f = subst (Each P) i.without e in
    subst (Each P) (sym i.whole) (each_append P i.front (c ∷ i.back) (each_front P i.front i.back f) (k, each_back P i.front i.back f))

pub placed-append : (h : Site) (t : ℕ) (xs : List ActivityEntry) (z : ActivityEntry) (o : Option ActivityEntry) → placed_at h t xs ≡ o → placed_at h t (xs ++ z ∷ []) ≡ (cond (is_some o) o (if is_placed_at h t z then Some z else None))
placed-append h t [] z o e = let k : None ≡ o = e in subst (λ o. placed_at h t (z ∷ []) ≡ (cond (is_some o) o (if is_placed_at h t z then Some z else None))) k refl
placed-append h t (x ∷ xs) z o e = by_test (is_placed_at h t x) e (placed-append h t xs z o)
  where
    by_test : (b : Bool) → cond b (Some x) (placed_at h t xs) ≡ o → (placed_at h t xs ≡ o → placed_at h t (xs ++ z ∷ []) ≡ (cond (is_some o) o (if is_placed_at h t z then Some z else None)))
        → cond b (Some x) (placed_at h t (xs ++ z ∷ [])) ≡ (cond (is_some o) o (if is_placed_at h t z then Some z else None))
    by_test true e ih = subst (λ o. Some x ≡ (cond (is_some o) o (if is_placed_at h t z then Some z else None))) e refl
    by_test false e ih = ih e
