-- What the tables say of the seats.
use Rattle.std.proofs.Common.{◌≡◌, ℕ, ◌<◌, Bool, true, false, cond, List, [], ◌∷◌, length, get_or, Option, Some, None, refl, sym, ap, ◌∙◌, subst, arith}
use Rattle.std.specs.Prelude.{slice_get, ◌==◌, ◌&&◌, ◌||◌, option_map, is_some}
use Rattle.std.specs.List.{list_any}
use Rattle.std.proofs.lemmas.Bool.Decides.{nat_tests}
use Rattle.std.proofs.lemmas.List.{length-map}
use Rattle.std.proofs.lemmas.Option.{slice_get-map, slice_get-get_or, slice_get_within}
use Rattle.m3_model.specs.Config.Site.{Site, tile_of}
use Rattle.m3_model.specs.Kernel.State.{SavedActivity, EntryResidency, Is_placed, Is_leaving, Is_resting, Is_coming, ActivityEntry, Kernel}
use Rattle.m3_model.specs.Kernel.Step.{is_placed_entry, is_leaving_entry, is_coming_entry, is_due_entry, first_due, is_leaving_at, placed_at, is_moving_at}
use Rattle.m3_kernel.specs.ActivityView.{seat_value, seats_of, place_of}
use Rattle.m3_kernel.specs.declared.seat.Place.{Place}
use Rattle.m3_kernel.specs.LookupTables.{test, IsOnly, is_there_at, berth_at}
use Rattle.m3_kernel.specs.KernelStateView.{kernel_in, IsKept}
use Rattle.m3_kernel.specs.StepContracts.{due_in, IsDue, leaver_in, IsLeaver}
use Rattle.m3_kernel.specs.declared.seat.Seat.{Seat as CodeSeat}
use Rattle.m3_kernel.specs.declared.berth.Berth.{Berth}
use Rattle.m3_kernel.specs.declared.state.State.{State}
use Rattle.m3_kernel.proofs.UniqueElement.{first_by, at_place, pick, first_only, only_here, only_beside, none_any, some_any}
use Rattle.std.proofs.lemmas.Bool.{and_parts}
use Rattle.m3_model.specs.Invariant.Scheduling.{is_placed_at}

-- ---- the code's seats

pub seat_here : (items : List CodeSeat) (at : ℕ) (x : CodeSeat) → at < length items → x ≡ get_or items at x → slice_get (seats_of items) at ≡ Some (seat_value x)
seat_here items at x within is =
    slice_get-map seat_value items at ∙ ap (option_map seat_value) (slice_get-get_or items at x within ∙ ap (λ y. Some y) (sym is))

pub within_seats : (items : List CodeSeat) (at : ℕ) (x : ActivityEntry) → slice_get (seats_of items) at ≡ Some x → at < length items
within_seats items at x e = subst (λ (n : ℕ). at < n) (length-map items seat_value) (slice_get_within (seats_of items) at x e)

-- ---- searches as tests of the tables

first_due_by : (h : Site) (t : ℕ) (xs : List ActivityEntry) → first_due h t xs ≡ first_by (is_due_entry h t) xs
first_due_by h t [] = refl
first_due_by h t (x ∷ xs) = ap (cond (is_due_entry h t x) (Some x)) (first_due_by h t xs)

placed_by : (h : Site) (t : ℕ) (xs : List ActivityEntry) → placed_at h t xs ≡ first_by (is_placed_at h t) xs
placed_by h t [] = refl
placed_by h t (x ∷ xs) = ap (cond (is_placed_at h t x) (Some x)) (placed_by h t xs)

there_by : (h : Site) (t : ℕ) (x : ActivityEntry) (w : EntryResidency) → (tile_of h x.act == t) ≡ true → (is_placed_entry w || is_coming_entry w) ≡ true → ((tile_of h x.act == t) && (is_placed_entry w || is_coming_entry w)) ≡ true
there_by h t x w a b = rw (a, b) refl

coming_there : (h : Site) (t : ℕ) (x : ActivityEntry) → is_due_entry h t x ≡ true → is_there_at h t x ≡ true
coming_there h t x e =
    let k = and_parts (tile_of h x.act == t) (is_coming_entry x.seating && (length x.hold == 0)) e in
    let l = and_parts (is_coming_entry x.seating) (length x.hold == 0) k.1 in
    there_by h t x x.seating k.0 (by_seating x.seating l.0)
  where
    by_seating : (w : EntryResidency) → is_coming_entry w ≡ true → (is_placed_entry w || is_coming_entry w) ≡ true
    by_seating Is_placed e = refl
    by_seating Is_leaving e = absurd (cc)
    by_seating (Is_resting y) e = absurd (cc)
    by_seating (Is_coming y) e = refl

placed_there : (h : Site) (t : ℕ) (x : ActivityEntry) → is_placed_at h t x ≡ true → is_there_at h t x ≡ true
placed_there h t x e =
    let k = and_parts (tile_of h x.act == t) (is_placed_entry x.seating) e in
    there_by h t x x.seating k.0 (ap (λ b. b || is_coming_entry x.seating) k.1)

module _ (s : State) (kept : IsKept s) (t : ℕ) where
  abbrev h : Site
  h = s.site

  abbrev k : Kernel
  k = kernel_in s

  abbrev berth : Berth
  berth = berth_at s.berths.items t

  leaves_by : (o : Option ℕ) → berth.leaving ≡ o → IsOnly (is_leaving_at h t) k.seats o
  leaves_by o e = subst (λ (q : Option ℕ). IsOnly (is_leaving_at h t) k.seats q) e (kept.tables.leaving t)

  there_only : (o : Option ℕ) → berth.there ≡ o → IsOnly (is_there_at h t) k.seats o
  there_only o e = subst (λ (q : Option ℕ). IsOnly (is_there_at h t) k.seats q) e (kept.tables.there t)

  pub one_leaves : (i : ℕ) → berth.leaving ≡ Some i → list_any (is_leaving_at h t) k.seats ≡ true
  one_leaves i e =
      let here = only_here (is_leaving_at h t) k.seats i (leaves_by (Some i) e) in
      some_any (is_leaving_at h t) k.seats i (ap (test (is_leaving_at h t)) here.1.0 ∙ here.1.1)

  pub none_leaves : berth.leaving ≡ None → list_any (is_leaving_at h t) k.seats ≡ false
  none_leaves e = none_any (is_leaving_at h t) k.seats (leaves_by None e)

  pub some_leaves : is_some berth.leaving ≡ true → list_any (is_leaving_at h t) k.seats ≡ true
  some_leaves e = by_leaving berth.leaving refl e
    where
      by_leaving : (o : Option ℕ) → berth.leaving ≡ o → is_some o ≡ true → list_any (is_leaving_at h t) k.seats ≡ true
      by_leaving None e f = absurd (cc)
      by_leaving (Some i) e f = one_leaves i e

  pub nobody_leaves : is_some berth.leaving ≡ false → berth.leaving ≡ None
  nobody_leaves e = by_leaving berth.leaving e
    where
      by_leaving : (o : Option ℕ) → is_some o ≡ false → o ≡ None
      by_leaving None f = refl
      by_leaving (Some i) f = absurd (cc)

  pub due_leaving : is_some berth.leaving ≡ true → due_in h t k ≡ None
  due_leaving e = ap (λ b. cond b None (first_due h t k.seats)) (some_leaves e)

  due_first : berth.leaving ≡ None → (o : Option ℕ) → berth.there ≡ o → due_in h t k ≡ pick (is_due_entry h t) (at_place k.seats o)
  due_first e o g =
      ap (λ b. cond b None (first_due h t k.seats)) (none_leaves e)
      ∙ first_due_by h t k.seats
      ∙ first_only (is_there_at h t) (is_due_entry h t) (coming_there h t) k.seats o (there_only o g)

  pub due_nobody : berth.leaving ≡ None → berth.there ≡ None → due_in h t k ≡ None
  due_nobody e g = due_first e None g

  leaves_none : placed_at h t k.seats ≡ None → leaver_in h t k ≡ None
  leaves_none e = by_any (list_any (is_moving_at h t) k.seats)
    where
      by_any : (b : Bool) → cond b None (placed_at h t k.seats) ≡ None
      by_any true = refl
      by_any false = e

  moving_by : (o : Option ActivityEntry) → test (is_leaving_at h t) o ≡ false → test (is_there_at h t) o ≡ false → test (is_moving_at h t) o ≡ false
  moving_by None e f = refl
  moving_by (Some x) e f = by_home (tile_of h x.act == t) x.seating e f
    where
      by_home : (b : Bool) (w : EntryResidency) → (b && is_leaving_entry w) ≡ false → (b && (is_placed_entry w || is_coming_entry w)) ≡ false → (b && (is_leaving_entry w || is_coming_entry w)) ≡ false
      by_home false w e f = refl
      by_home true Is_placed e f = refl
      by_home true Is_leaving e f = e
      by_home true (Is_resting y) e f = refl
      by_home true (Is_coming y) e f = f

  leaving_moves : (x : ActivityEntry) → is_leaving_at h t x ≡ true → is_moving_at h t x ≡ true
  leaving_moves x e = by_home (tile_of h x.act == t) x.seating e
    where
      by_home : (b : Bool) (w : EntryResidency) → (b && is_leaving_entry w) ≡ true → (b && (is_leaving_entry w || is_coming_entry w)) ≡ true
      by_home false w e = e
      by_home true Is_placed e = absurd (cc)
      by_home true Is_leaving e = refl
      by_home true (Is_resting y) e = absurd (cc)
      by_home true (Is_coming y) e = refl

  -- ---- whether a switch is under way

  pub leaving_moving : is_some berth.leaving ≡ true → list_any (is_moving_at h t) k.seats ≡ true
  leaving_moving e = by_leaving berth.leaving refl e
    where
      by_leaving : (o : Option ℕ) → berth.leaving ≡ o → is_some o ≡ true → list_any (is_moving_at h t) k.seats ≡ true
      by_leaving None e f = absurd (cc)
      by_leaving (Some i) e f =
          let here = only_here (is_leaving_at h t) k.seats i (leaves_by (Some i) e) in
          some_any (is_moving_at h t) k.seats i (ap (test (is_moving_at h t)) here.1.0 ∙ leaving_moves here.0 here.1.1)

  pub nobody_moving : berth.leaving ≡ None → berth.there ≡ None → list_any (is_moving_at h t) k.seats ≡ false
  nobody_moving e g = none_any (is_moving_at h t) k.seats (λ i. moving_by (slice_get k.seats i) (leaves_by None e i) (there_only None g i))

  pub leaver_leaving : is_some berth.leaving ≡ true → leaver_in h t k ≡ None
  leaver_leaving e = by_leaving berth.leaving refl e
    where
      by_leaving : (o : Option ℕ) → berth.leaving ≡ o → is_some o ≡ true → leaver_in h t k ≡ None
      by_leaving None e f = absurd (cc)
      by_leaving (Some i) e f =
          let here = only_here (is_leaving_at h t) k.seats i (leaves_by (Some i) e) in
          ap (λ b. cond b None (placed_at h t k.seats)) (some_any (is_moving_at h t) k.seats i (ap (test (is_moving_at h t)) here.1.0 ∙ leaving_moves here.0 here.1.1))

  pub leaver_nobody : berth.there ≡ None → leaver_in h t k ≡ None
  leaver_nobody g =
      leaves_none (placed_by h t k.seats ∙ first_only (is_there_at h t) (is_placed_at h t) (placed_there h t) k.seats None (there_only None g))

  pub there_here : (at : ℕ) → berth.there ≡ Some at → (x : ActivityEntry) × ((slice_get k.seats at ≡ Some x) × (is_there_at h t x ≡ true))
  there_here at g = only_here (is_there_at h t) k.seats at (there_only (Some at) g)

  pub there_within : (at : ℕ) → berth.there ≡ Some at → at < length s.seats.items
  there_within at g = within_seats s.seats.items at (there_here at g).0 (there_here at g).1.0

  module _ (at : ℕ) (g : berth.there ≡ Some at) (x : ActivityEntry) (here : slice_get k.seats at ≡ Some x) where
    is_it : (there_here at g).0 ≡ x
    is_it = let e : Some (there_here at g).0 ≡ Some x = sym (there_here at g).1.0 ∙ here in cc

    pub home_here : tile_of h x.act ≡ t
    home_here =
        let e : is_there_at h t x ≡ true = ap (is_there_at h t) (sym is_it) ∙ (there_here at g).1.1 in
        let f : (tile_of h x.act == t) ≡ true = (and_parts (tile_of h x.act == t) (is_placed_entry x.seating || is_coming_entry x.seating) e).0 in
        let n : tile_of h x.act ≡ t = grind (arith, nat_tests, f) in
        n

    at_home : (tile_of h x.act == t) ≡ true
    at_home = let e = home_here in let n : (tile_of h x.act == t) ≡ true = grind (arith, nat_tests, e) in n

    due_here : berth.leaving ≡ None → (b : Bool) → (is_coming_entry x.seating && (length x.hold == 0)) ≡ b → due_in h t k ≡ cond b (Some x) None
    due_here e b d =
        due_first e (Some at) g
        ∙ ap (pick (is_due_entry h t)) here
        ∙ ap (λ c. cond (c && (is_coming_entry x.seating && (length x.hold == 0))) (Some x) None) at_home
        ∙ ap (λ c. cond c (Some x) None) d

    pub not_due : berth.leaving ≡ None → (is_coming_entry x.seating && (length x.hold == 0)) ≡ false → due_in h t k ≡ None
    not_due e d = due_here e false d

    coming_by : (w : EntryResidency) (b : Bool) → (is_coming_entry w && b) ≡ true → (y : SavedActivity) × (w ≡ Is_coming y)
    coming_by Is_placed b e = absurd (cc)
    coming_by Is_leaving b e = absurd (cc)
    coming_by (Is_resting y) b e = absurd (cc)
    coming_by (Is_coming y) b e = (y, refl)

    pub is_due_here : berth.leaving ≡ None → (is_coming_entry x.seating && (length x.hold == 0)) ≡ true → IsDue h t k at
    is_due_here e d =
        let y = coming_by x.seating (length x.hold == 0) d in
        record { seat = x; away = y.0; here = here; comes = y.1; home = home_here; due = due_here e true d }

    moving_here : (w : EntryResidency) (b : Bool) → (b && is_leaving_entry w) ≡ false → b ≡ true → (b && (is_leaving_entry w || is_coming_entry w)) ≡ is_coming_entry w
    moving_here Is_placed true e f = refl
    moving_here Is_leaving true e f = absurd (cc)
    moving_here (Is_resting y) true e f = refl
    moving_here (Is_coming y) true e f = refl
    moving_here w false e f = absurd (cc)

    its_moving : berth.leaving ≡ None → is_moving_at h t x ≡ is_coming_entry x.seating
    its_moving e = moving_here x.seating (tile_of h x.act == t) (ap (test (is_leaving_at h t)) (sym here) ∙ leaves_by None e at) at_home

    pub there_moving : berth.leaving ≡ None → (b : Bool) → is_coming_entry x.seating ≡ b → list_any (is_moving_at h t) k.seats ≡ b
    there_moving e true c = some_any (is_moving_at h t) k.seats at (ap (test (is_moving_at h t)) here ∙ its_moving e ∙ c)
    there_moving e false c = none_any (is_moving_at h t) k.seats (λ i. by_place i (i == at) refl)
      where
        by_place : (i : ℕ) (b : Bool) → (i == at) ≡ b → test (is_moving_at h t) (slice_get k.seats i) ≡ false
        by_place i true d =
            let n : i ≡ at = grind (arith, nat_tests, d) in
            ap (λ j. test (is_moving_at h t) (slice_get k.seats j)) n ∙ ap (test (is_moving_at h t)) here ∙ its_moving e ∙ c
        by_place i false d = moving_by (slice_get k.seats i) (leaves_by None e i) (only_beside (is_there_at h t) k.seats at i (there_only (Some at) g) d)

    -- ---- who leaves

    place_or : (w : EntryResidency) → (place_of w ≡ Place.Placed → ⊥) → is_placed_entry w ≡ false
    place_or Is_placed e = absurd (e refl)
    place_or Is_leaving e = refl
    place_or (Is_resting y) e = refl
    place_or (Is_coming y) e = refl

    placed_is : (b : Bool) → is_placed_entry x.seating ≡ b → placed_at h t k.seats ≡ cond b (Some x) None
    placed_is b d =
        placed_by h t k.seats
        ∙ first_only (is_there_at h t) (is_placed_at h t) (placed_there h t) k.seats (Some at) (there_only (Some at) g)
        ∙ ap (pick (is_placed_at h t)) here
        ∙ ap (λ c. cond (c && is_placed_entry x.seating) (Some x) None) at_home
        ∙ ap (λ c. cond c (Some x) None) d

    pub not_leaver : (place_of x.seating ≡ Place.Placed → ⊥) → leaver_in h t k ≡ None
    not_leaver e = leaves_none (placed_is false (place_or x.seating e))

    placed_of : (w : EntryResidency) → place_of w ≡ Place.Placed → w ≡ Is_placed
    placed_of Is_placed e = refl
    placed_of Is_leaving e = absurd (cc)
    placed_of (Is_resting y) e = absurd (cc)
    placed_of (Is_coming y) e = absurd (cc)

    still : berth.leaving ≡ None → x.seating ≡ Is_placed → (i : ℕ) → test (is_moving_at h t) (slice_get k.seats i) ≡ false
    still e p i = by_place (i == at) refl
      where
        not_coming : is_moving_at h t x ≡ false
        not_coming = ap (λ w. (tile_of h x.act == t) && (is_leaving_entry w || is_coming_entry w)) p ∙ (let n = at_home in grind (arith))

        by_place : (b : Bool) → (i == at) ≡ b → test (is_moving_at h t) (slice_get k.seats i) ≡ false
        by_place true d = let n : i ≡ at = grind (arith, nat_tests, d) in ap (λ j. test (is_moving_at h t) (slice_get k.seats j)) n ∙ ap (test (is_moving_at h t)) here ∙ not_coming
        by_place false d = moving_by (slice_get k.seats i) (leaves_by None e i) (only_beside (is_there_at h t) k.seats at i (there_only (Some at) g) d)

    pub is_leaver : berth.leaving ≡ None → place_of x.seating ≡ Place.Placed → IsLeaver s t at
    is_leaver e p =
        let q = placed_of x.seating p in
        record {
          seat = x;
          here = here;
          placed = q;
          home = home_here;
          nobody = e;
          there = g;
          leaves = ap (λ b. cond b None (placed_at h t k.seats)) (none_any (is_moving_at h t) k.seats (still e q)) ∙ placed_is true (ap is_placed_entry q);
        }
