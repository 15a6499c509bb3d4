-- Seats and homes stand side by side, so what the kernel looks for among seats the places look for among actors.
use Rattle.std.proofs.Common.{◌≡◌, ℕ, suc, ◌≤◌, Bool, true, false, cond, List, [], ◌∷◌, ◌++◌, Some, None, refl, sym, subst, ◌∙◌, ap, arith, append_assoc, length, map, Option}
use Rattle.std.specs.Prelude.{◌==◌, ◌&&◌, ◌||◌}
use Rattle.std.specs.List.{list_any}
use Rattle.std.proofs.lemmas.Bool.Decides.{nat_tests}
use Rattle.std.proofs.lemmas.List.{map-append}
use Rattle.m3_base.specs.declared.packet.Packet.{Packet}
use Rattle.m3_base.specs.Lists.Keyed as keyed
use Rattle.m3_base.specs.Lists.Counting.{one, how_many}
use Rattle.m3_base.specs.Ideal.State.{same_act}
use Rattle.m3_base.specs.Ideal.Flights.{name_of}
use Rattle.m3_base.specs.Placement.State as places_state
use Rattle.m3_base.specs.Placement.Take as places_take
use Rattle.m3_base.specs.Placement.Order as places_order
use Rattle.m3_base.specs.Placement.State.{PlacedActivity, actor_act}
use Rattle.m3_model.specs.Config.Site.{Home, Site, home_act, home_of, tile_of, tile_in}
use Rattle.m3_model.specs.Kernel.State.{EntryResidency, Is_placed, Is_leaving, Is_resting, Is_coming, ActivityEntry, Kernel}
use Rattle.m3_model.specs.Tile.Step.{resident_of}
use Rattle.m3_model.specs.Kernel.Step.{entry_act, entry_of, placed_at, is_placed_entry, is_leaving_entry, is_coming_entry, is_leaving_at, is_moving_at, is_due_entry, first_due}
use Rattle.m3_model.specs.Machine.{Machine, tile_at}
use Rattle.m3_model.specs.Abstraction.{actor_in, actor_by, residency_of}
use Rattle.m3_model.specs.Invariant.Distinct.{DistinctHomes}
use Rattle.m3_model.specs.Invariant.Scheduling.{is_placed_at}
use Rattle.m3_refine.proofs.abstraction.OpeningLines.{home_in}
use Rattle.m3_refine.proofs.opening.PlaceAll.{home_front, home_there}

-- ---- side by side

-- x is the seat of the home y
pub record SeatOf (h : Site) (k : Kernel) (x : ActivityEntry) (y : Home) : Type 0 where
  pub act : x.act ≡ y.act
  pub seat : entry_of y.act k ≡ Some x
  pub home : home_of y.act h ≡ Some y

-- the kernel's entry of its activity
abbrev pub IsEntryOf : Kernel → ActivityEntry → Type 0
IsEntryOf k x = entry_of x.act k ≡ Some x

pub seat_entry : (h : Site) (k : Kernel) (x : ActivityEntry) (y : Home) → SeatOf h k x y → IsEntryOf k x
seat_entry h k x y s = ap (λ n. entry_of n k) s.act ∙ s.seat

abbrev pub AreSeats : Site → Kernel → List ActivityEntry → List Home → Type 0
AreSeats h k [] [] = Unit {0}
AreSeats h k (x ∷ xs) (y ∷ ys) = SeatOf h k x y × AreSeats h k xs ys
AreSeats h k [] (y ∷ ys) = ⊥
AreSeats h k (x ∷ xs) [] = ⊥

same_head : (x : ActivityEntry) (xs : List ActivityEntry) (y : Home) (ys : List Home) → map entry_act (x ∷ xs) ≡ map home_act (y ∷ ys) → (x.act ≡ y.act) × (map entry_act xs ≡ map home_act ys)
same_head x xs y ys e = (cc, cc)

seat_absent : (a : ℕ) (fs : List ActivityEntry) (gs : List Home) → map entry_act fs ≡ map home_act gs → home_in a gs ≡ None → keyed.find entry_act same_act a fs ≡ None
seat_absent a [] gs e n = refl
seat_absent a (x ∷ fs) [] e n = absurd (cc)
seat_absent a (x ∷ fs) (y ∷ gs) e n = let s = same_head x fs y gs e in let k = s.0 in let r = seat_absent a fs gs s.1 in grind (arith, nat_tests, n, k, r)

seat_here : (fs : List ActivityEntry) (x : ActivityEntry) (xs : List ActivityEntry) (a : ℕ) → keyed.find entry_act same_act a fs ≡ None → a ≡ x.act → keyed.find entry_act same_act a (fs ++ x ∷ xs) ≡ Some x
seat_here [] x xs a n e = grind (arith, nat_tests, e)
seat_here (z ∷ fs) x xs a n e = let r = seat_here fs x xs a in grind (arith, nat_tests, n, e, r)

module _ (h : Site) (k : Kernel) (order : map entry_act k.seats ≡ map home_act h.homes) (apart : DistinctHomes h.homes) where
  are_by : (fs xs : List ActivityEntry) (gs ys : List Home) → k.seats ≡ fs ++ xs → h.homes ≡ gs ++ ys → map entry_act fs ≡ map home_act gs → map entry_act xs ≡ map home_act ys → AreSeats h k xs ys
  are_by fs [] gs [] a b c d = tt
  are_by fs [] gs (y ∷ ys) a b c d = absurd (cc)
  are_by fs (x ∷ xs) gs [] a b c d = absurd (cc)
  are_by fs (x ∷ xs) gs (y ∷ ys) a b c d =
      let s = same_head x xs y ys d in
      let none = home_front gs y ys (subst DistinctHomes b apart) in (
        record {
          act = s.0;
          seat = ap (keyed.find entry_act same_act y.act) a ∙ seat_here fs x xs y.act (seat_absent y.act fs gs c none) (sym s.0);
          home = ap (home_in y.act) b ∙ home_there gs y ys none;
        },
        are_by (fs ++ x ∷ []) xs (gs ++ y ∷ []) ys (a ∙ sym (append_assoc fs (x ∷ []) xs)) (b ∙ sym (append_assoc gs (y ∷ []) ys))
            (map-append entry_act fs (x ∷ []) ∙ (λ i. c i ++ s.0 i ∷ []) ∙ sym (map-append home_act gs (y ∷ []))) s.1,
      )

  pub are_seats : AreSeats h k k.seats h.homes
  are_seats = are_by [] k.seats [] h.homes refl refl refl order

-- ---- what is looked for

tile_is : (h : Site) (y : Home) → home_of y.act h ≡ Some y → tile_of h y.act ≡ y.tile
tile_is h y e = ap tile_in e

-- the actor of a seat
abbrev pub actor_home : Machine → Option Home → Option PlacedActivity
actor_home m None = None
actor_home m (Some y) = Some (actor_in m y)

abbrev pub actor_seat : Site → Machine → Option ActivityEntry → Option PlacedActivity
actor_seat h m None = None
actor_seat h m (Some x) = actor_home m (home_of x.act h)

pub placed_same : (w : EntryResidency) → places_state.is_placed (residency_of w) ≡ is_placed_entry w
placed_same Is_placed = refl
placed_same Is_leaving = refl
placed_same (Is_resting y) = refl
placed_same (Is_coming y) = refl

pub leaving_same : (w : EntryResidency) → places_state.is_leaving (residency_of w) ≡ is_leaving_entry w
leaving_same Is_placed = refl
leaving_same Is_leaving = refl
leaving_same (Is_resting y) = refl
leaving_same (Is_coming y) = refl

pub coming_same : (w : EntryResidency) → places_state.is_coming (residency_of w) ≡ is_coming_entry w
coming_same Is_placed = refl
coming_same Is_leaving = refl
coming_same (Is_resting y) = refl
coming_same (Is_coming y) = refl

module _ (h : Site) (m : Machine) where
  module _ (x : ActivityEntry) (y : Home) (s : SeatOf h m.kernel x y) where
    pub actor_place : (actor_in m y).place ≡ residency_of x.seating
    actor_place = ap (λ o. (actor_by y o (resident_of y.act (tile_at y.tile m))).place) s.seat

    pub actor_hold : (actor_in m y).hold ≡ map name_of x.hold
    actor_hold = ap (λ o. (actor_by y o (resident_of y.act (tile_at y.tile m))).hold) s.seat

    pub seat_tile : tile_of h x.act ≡ y.tile
    seat_tile = ap (tile_of h) s.act ∙ tile_is h y s.home

    pub seat_home : actor_seat h m (Some x) ≡ Some (actor_in m y)
    seat_home = ap (λ a. actor_home m (home_of a h)) s.act ∙ ap (actor_home m) s.home

    both : (t : ℕ) (p : places_state.Residency → Bool) (q : EntryResidency → Bool) → ((w : EntryResidency) → p (residency_of w) ≡ q w) → ((y.tile == t) && p (actor_in m y).place) ≡ ((tile_of h x.act == t) && q x.seating)
    both t p q e = ap (λ w. (y.tile == t) && p w) actor_place ∙ ap (λ b. (y.tile == t) && b) (e x.seating) ∙ ap (λ n. (n == t) && q x.seating) (sym seat_tile)

    pub length-names : length (map name_of x.hold) ≡ length x.hold
    length-names = go x.hold
      where
        go : (ps : List Packet) → length (map name_of ps) ≡ length ps
        go [] = refl
        go (p ∷ ps) = ap (λ n. suc n) (go ps)

    due_same : (t : ℕ) → places_take.is_due t (actor_in m y) ≡ is_due_entry h t x
    due_same t =
        ap (λ w. (y.tile == t) && (places_state.is_coming w && (length (actor_in m y).hold == 0))) actor_place
        ∙ ap (λ b. (y.tile == t) && (b && (length (actor_in m y).hold == 0))) (coming_same x.seating)
        ∙ ap (λ l. (y.tile == t) && (is_coming_entry x.seating && (length l == 0))) actor_hold
        ∙ ap (λ n. (y.tile == t) && (is_coming_entry x.seating && (n == 0))) length-names
        ∙ ap (λ n. (n == t) && (is_coming_entry x.seating && (length x.hold == 0))) (sym seat_tile)

  any_same : (p : PlacedActivity → Bool) (q : ActivityEntry → Bool) → ((x : ActivityEntry) (y : Home) → SeatOf h m.kernel x y → p (actor_in m y) ≡ q x) → (xs : List ActivityEntry) (ys : List Home) → AreSeats h m.kernel xs ys → list_any p (map (actor_in m) ys) ≡ list_any q xs
  any_same p q e [] [] a = refl
  any_same p q e (x ∷ xs) (y ∷ ys) a = let r = any_same p q e xs ys a.1 in let d = e x y a.0 in grind (arith, r, d)
  any_same p q e [] (y ∷ ys) a = absurd a
  any_same p q e (x ∷ xs) [] a = absurd a

  pub leaving_any : (t : ℕ) (xs : List ActivityEntry) (ys : List Home) → AreSeats h m.kernel xs ys → list_any (places_take.is_leaving_at t) (map (actor_in m) ys) ≡ list_any (is_leaving_at h t) xs
  leaving_any t = any_same (places_take.is_leaving_at t) (is_leaving_at h t) (λ x y s. both x y s t places_state.is_leaving is_leaving_entry leaving_same)

  pub moving_any : (t : ℕ) (xs : List ActivityEntry) (ys : List Home) → AreSeats h m.kernel xs ys → list_any (places_order.is_moving_at t) (map (actor_in m) ys) ≡ list_any (is_moving_at h t) xs
  moving_any t =
      any_same (places_order.is_moving_at t) (is_moving_at h t)
      (λ x y s. both x y s t (λ w. places_state.is_leaving w || places_state.is_coming w) (λ w. is_leaving_entry w || is_coming_entry w) (λ w. (λ i. leaving_same w i || coming_same w i)))

  first_by : (b : Bool) (x : ActivityEntry) (y : Home) (o : Option PlacedActivity) (r : Option ActivityEntry) → SeatOf h m.kernel x y → o ≡ actor_seat h m r → cond b (Some (actor_in m y)) o ≡ actor_seat h m (cond b (Some x) r)
  first_by true x y o r s e = sym (seat_home x y s)
  first_by false x y o r s e = e

  pub due_first : (t : ℕ) (xs : List ActivityEntry) (ys : List Home) → AreSeats h m.kernel xs ys → places_take.first_due t (map (actor_in m) ys) ≡ actor_seat h m (first_due h t xs)
  due_first t [] [] a = refl
  due_first t (x ∷ xs) (y ∷ ys) a =
      ap (λ b. cond b (Some (actor_in m y)) (places_take.first_due t (map (actor_in m) ys))) (due_same x y a.0 t)
      ∙ first_by (is_due_entry h t x) x y (places_take.first_due t (map (actor_in m) ys)) (first_due h t xs) a.0 (due_first t xs ys a.1)
  due_first t [] (y ∷ ys) a = absurd a
  due_first t (x ∷ xs) [] a = absurd a

  pub placed_first : (t : ℕ) (xs : List ActivityEntry) (ys : List Home) → AreSeats h m.kernel xs ys → places_order.placed_at t (map (actor_in m) ys) ≡ actor_seat h m (placed_at h t xs)
  placed_first t [] [] a = refl
  placed_first t (x ∷ xs) (y ∷ ys) a =
      ap (λ b. cond b (Some (actor_in m y)) (places_order.placed_at t (map (actor_in m) ys))) (both x y a.0 t places_state.is_placed is_placed_entry placed_same)
      ∙ first_by ((tile_of h x.act == t) && is_placed_entry x.seating) x y (places_order.placed_at t (map (actor_in m) ys)) (placed_at h t xs) a.0 (placed_first t xs ys a.1)
  placed_first t [] (y ∷ ys) a = absurd a
  placed_first t (x ∷ xs) [] a = absurd a

-- ---- a seat or an actor in place of another

pub order_replaced : (x : ActivityEntry) (xs : List ActivityEntry) → map entry_act (keyed.with_replaced entry_act same_act x xs) ≡ map entry_act xs
order_replaced x [] = refl
order_replaced x (y ∷ xs) = by_test (x.act == y.act) refl (order_replaced x xs)
  where
    by_test : (b : Bool) → (x.act == y.act) ≡ b → map entry_act (keyed.with_replaced entry_act same_act x xs) ≡ map entry_act xs → map entry_act (cond b (x ∷ xs) (y ∷ keyed.with_replaced entry_act same_act x xs)) ≡ map entry_act (y ∷ xs)
    by_test true e ih = let k : x.act ≡ y.act = grind (arith, nat_tests, e) in (λ i. k i ∷ map entry_act xs)
    by_test false e ih = ap (λ l. y.act ∷ l) ih

-- one home's actor changes
pub actors_replaced : (f g : Home → PlacedActivity) (y : Home) → ((w : Home) → (f w).act ≡ w.act) → (g y).act ≡ y.act → ((w : Home) → (y.act == w.act) ≡ false → g w ≡ f w) → (ys : List Home) → DistinctHomes ys → home_in y.act ys ≡ Some y
    → keyed.with_replaced actor_act same_act (g y) (map f ys) ≡ map g ys
actors_replaced f g y keys key same [] a e = absurd (cc)
actors_replaced f g y keys key same (w ∷ ys) a e = by_test (y.act == w.act) refl e (actors_replaced f g y keys key same ys a.1)
  where
    rest_same : (ys : List Home) → home_in y.act ys ≡ None → map f ys ≡ map g ys
    rest_same [] n = refl
    rest_same (v ∷ ys) n =
        let d : (y.act == v.act) ≡ false = grind (arith, nat_tests, n) in
        let r = rest_same ys (grind (arith, nat_tests, n)) in
        (λ i. sym (same v d) i ∷ r i)

    tests : ((g y).act == (f w).act) ≡ (y.act == w.act)
    tests = (λ i. key i == keys w i)

    by_test : (b : Bool) → (y.act == w.act) ≡ b → cond b (Some w) (home_in y.act ys) ≡ Some y → (home_in y.act ys ≡ Some y → keyed.with_replaced actor_act same_act (g y) (map f ys) ≡ map g ys)
        → keyed.with_replaced actor_act same_act (g y) (map f (w ∷ ys)) ≡ map g (w ∷ ys)
    by_test true d e ih =
        let k : w ≡ y = cc in
        let n : home_in y.act ys ≡ None = subst (λ v. home_in v.act ys ≡ None) k a.0 in
        ap (λ b. cond b (g y ∷ map f ys) (f w ∷ keyed.with_replaced actor_act same_act (g y) (map f ys))) (tests ∙ d)
        ∙ (λ i. g (sym k i) ∷ rest_same ys n i)
    by_test false d e ih =
        ap (λ b. cond b (g y ∷ map f ys) (f w ∷ keyed.with_replaced actor_act same_act (g y) (map f ys))) (tests ∙ d)
        ∙ (λ i. sym (same w d) i ∷ ih e i)

-- ---- who is Placed

pub placed_none : (h : Site) (t : ℕ) (xs : List ActivityEntry) → how_many (is_placed_at h t) xs ≡ 0 → placed_at h t xs ≡ None
placed_none h t [] e = refl
placed_none h t (x ∷ xs) e = by_test (is_placed_at h t x) refl (placed_none h t xs)
  where
    by_test : (b : Bool) → is_placed_at h t x ≡ b → (how_many (is_placed_at h t) xs ≡ 0 → placed_at h t xs ≡ None) → cond b (Some x) (placed_at h t xs) ≡ None
    by_test true d ih = absurd (let z : one (is_placed_at h t x) ≡ 1 = ap one d in omega arith)
    by_test false d ih = let z : one (is_placed_at h t x) ≡ 0 = ap one d in ih (omega arith)

-- at most one is Placed, so it is the one that is found
pub placed_one : (h : Site) (t a : ℕ) (xs : List ActivityEntry) (x : ActivityEntry) → how_many (is_placed_at h t) xs ≤ 1 → keyed.find entry_act same_act a xs ≡ Some x → is_placed_at h t x ≡ true → placed_at h t xs ≡ Some x
placed_one h t a [] x le e p = absurd (cc)
placed_one h t a (z ∷ xs) x le e p = by_test (a == z.act) (is_placed_at h t z) refl e (placed_one h t a xs x)
  where
    some_placed : (ys : List ActivityEntry) → keyed.find entry_act same_act a ys ≡ Some x → 1 ≤ how_many (is_placed_at h t) ys
    some_placed [] k = absurd (cc)
    some_placed (y ∷ ys) k = by_key (a == y.act) k (some_placed ys)
      where
        by_key : (b : Bool) → cond b (Some y) (keyed.find entry_act same_act a ys) ≡ Some x → (keyed.find entry_act same_act a ys ≡ Some x → 1 ≤ how_many (is_placed_at h t) ys) → 1 ≤ how_many (is_placed_at h t) (y ∷ ys)
        by_key true k ih = let s : y ≡ x = cc in let q : one (is_placed_at h t y) ≡ 1 = ap one (ap (is_placed_at h t) s ∙ p) in omega arith
        by_key false k ih = let r = ih k in omega arith

    by_test : (b d : Bool) → is_placed_at h t z ≡ d → cond b (Some z) (keyed.find entry_act same_act a xs) ≡ Some x → (how_many (is_placed_at h t) xs ≤ 1 → keyed.find entry_act same_act a xs ≡ Some x → is_placed_at h t x ≡ true → placed_at h t xs ≡ Some x)
        → cond d (Some z) (placed_at h t xs) ≡ Some x
    by_test true true q k ih = k
    by_test true false q k ih = absurd (let s : z ≡ x = cc in let w : is_placed_at h t z ≡ true = ap (is_placed_at h t) s ∙ p in cc)
    by_test false true q k ih = absurd (let r = some_placed xs k in let w : one (is_placed_at h t z) ≡ 1 = ap one q in omega arith)
    by_test false false q k ih = ih (let w : one (is_placed_at h t z) ≡ 0 = ap one q in omega arith) k p

-- how much a test adds with one that holds, and with one that doesn't
pub one-and : (q : Bool) → (one (q && true) ≡ one q) × (one (q && false) ≡ 0)
one-and true = (refl, refl)
one-and false = (refl, refl)
