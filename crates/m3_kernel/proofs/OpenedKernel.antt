-- A kernel as it opens, and a seat more.
use Rattle.std.proofs.Common.{◌≡◌, ℕ, zero, suc, ◌<◌, Bool, true, false, List, [], ◌∷◌, ◌++◌, length, get_or, set, replicate, Option, Some, None, refl, sym, ap, ◌∙◌, subst, arith, ⊎_elim}
use Rattle.std.specs.Prelude.{◌==◌, ◌&&◌, ◌||◌, is_some}
use Rattle.std.specs.List.{list_any}
use Rattle.std.proofs.lemmas.Bool.Decides.{nat_tests}
use Rattle.std.proofs.lemmas.Bool.{cases_eq}
use Rattle.std.proofs.lemmas.List.{map-append, get_or-set_same, get_or-set_other, length-set, length-map, get_or_default}
use Rattle.m3_base.specs.declared.setup_line.SetupLine.{SetupLine}
use Rattle.m3_base.specs.Ideal.Context.{Context}
use Rattle.m3_base.specs.Ideal.State.{is_number}
use Rattle.m3_model.specs.Config.Site.{Site, tile_of, has_program}
use Rattle.m3_model.specs.Kernel.State.{ActivityEntry, Kernel}
use Rattle.m3_model.specs.Config.FromSetup.{with_home, with_homes}
use Rattle.m3_model.specs.Kernel.Step.{entry_of, join_ready, is_placed_entry, is_leaving_entry, is_coming_entry, is_leaving_at}
use Rattle.m3_base.specs.Setup.Rules.{SetupValue, programmed_acts}
use Rattle.m3_model.specs.SetupOpening.{opened_site}
use Rattle.m3_sched.specs.SchedView.{Scheduler, with_ready_if}
use Rattle.m3_kernel.specs.ActivityView.{seat_value, seats_of, new_seat, opened_as}
use Rattle.m3_kernel.specs.LookupTables.{IsOnly, is_of, is_there_at, empty_berth, berth_at, AreTables, IsHeldSet}
use Rattle.m3_kernel.specs.KernelStateView.{KernelAt, kernel_in, at_site, IsKept}
use Rattle.m3_kernel.specs.declared.seat.Seat.{Seat as CodeSeat}
use Rattle.m3_kernel.specs.declared.berth.Berth.{Berth}
use Rattle.m3_kernel.specs.declared.state.State.{State}
use Rattle.m3_kernel.proofs.UniqueElement.{only_more, only_last, any_none, none_any, some_any}
use Rattle.m3_kernel.proofs.TablesAfterChange.{berth_same, berth_other, leaving_same, elsewhere}
use Rattle.m3_kernel.specs.StepContracts.{IsSeatOf}
use Rattle.m3_kernel.specs.KernelOpening.{with_new_seat, is_taken, HasPlaceFor, resting_with}
use Rattle.m3_kernel.proofs.FindEntry.{is_seat}
use Rattle.m3_kernel.proofs.HeldSet.{held_more}
use Rattle.m3_kernel.proofs.JoinReady.{join_is}

-- ---- the site

line_memory : (ps : List ℕ) (h : Site) (l : SetupLine) → (with_home ps h l).memory ≡ h.memory
line_memory ps h (SetupLine.Act a t) = refl
line_memory ps h (SetupLine.Quantum q) = refl
line_memory ps h l = refl

all_memory : (ps : List ℕ) (h : Site) (ls : List SetupLine) → (with_homes ps h ls).memory ≡ h.memory
all_memory ps h [] = refl
all_memory ps h (l ∷ ls) = all_memory ps (with_home ps h l) ls ∙ line_memory ps h l

pub site_memory : (s : SetupValue) → (opened_site s).memory ≡ s.memory
site_memory s = all_memory (programmed_acts s.lines) (record { homes = []; quantum = 8; memory = s.memory }) s.lines

-- ---- empty tables

none_of : (n a : ℕ) → get_or {A = Option ℕ} (replicate n None) a None ≡ None
none_of zero a = refl
none_of (suc n) zero = refl
none_of (suc n) (suc a) = none_of n a

empty_of : (n t : ℕ) → get_or (replicate n empty_berth) t empty_berth ≡ empty_berth
empty_of zero t = refl
empty_of (suc n) zero = refl
empty_of (suc n) (suc t) = empty_of n t

only_none : (p : ActivityEntry → Bool) (o : Option ℕ) → o ≡ None → IsOnly p [] o
only_none p o e i = sym (ap (is_number i) e)

pub empty_tables : (h : Site) → AreTables h [] (replicate 64 None) (replicate 16 empty_berth)
empty_tables h = record {
  acts = refl;
  tiles = refl;
  places = λ a. only_none (is_of a) (get_or (replicate 64 None) a None) (none_of 64 a);
  leaving = λ t. only_none (is_leaving_at h t) (berth_at (replicate 16 empty_berth) t).leaving (ap (λ b. b.leaving) (empty_of 16 t));
  there = λ t. only_none (is_there_at h t) (berth_at (replicate 16 empty_berth) t).there (ap (λ b. b.there) (empty_of 16 t));
}

-- ---- a seat more

module _ (h : Site) (xs : List ActivityEntry) (index : List (Option ℕ)) (berths : List Berth) (kept : AreTables h xs index berths) (z : ActivityEntry) (low : z.act < 64) (fresh : get_or index z.act None ≡ None) where
  abbrev more : List ActivityEntry
  more = xs ++ z ∷ []

  abbrev index_now : List (Option ℕ)
  index_now = set index z.act (Some (length xs))

  places_more : (a : ℕ) → IsOnly (is_of a) more (get_or index_now a None)
  places_more a =
      ⊎_elim
      (λ (same : a ≡ z.act).
      let own : is_of a z ≡ true = grind (arith, nat_tests, same) in
      let none : get_or index a None ≡ None = ap (λ b. get_or index b None) same ∙ fresh in
      let now : get_or index_now a None ≡ Some (length xs) = ap (λ b. get_or index_now b None) same ∙ get_or-set_same index z.act (Some (length xs)) None (let e = kept.acts in omega arith) in
      subst (λ (o : Option ℕ). IsOnly (is_of a) more o) (sym now) (only_last (is_of a) xs z (subst (λ (o : Option ℕ). IsOnly (is_of a) xs o) none (kept.places a)) own))
      (λ (ne : a ≡ z.act → ⊥).
      let other : is_of a z ≡ false = grind (arith, nat_tests, ne) in
      subst (λ (o : Option ℕ). IsOnly (is_of a) more o) (sym (get_or-set_other index z.act a (Some (length xs)) None ne)) (only_more (is_of a) xs (get_or index a None) z (kept.places a) other))
      (cases_eq a z.act)

  not_in : (t : ℕ) (b : Bool) → b ≡ false → ((tile_of h z.act == t) && b) ≡ false
  not_in t b e = by_tile (tile_of h z.act == t)
    where
      by_tile : (a : Bool) → (a && b) ≡ false
      by_tile true = e
      by_tile false = refl

  -- it rests
  pub tables_resting : is_leaving_entry z.seating ≡ false → (is_placed_entry z.seating || is_coming_entry z.seating) ≡ false → AreTables h more index_now berths
  tables_resting leaves there = record {
    acts = length-set index z.act (Some (length xs)) ∙ kept.acts;
    tiles = kept.tiles;
    places = places_more;
    leaving = λ t. only_more (is_leaving_at h t) xs (berth_at berths t).leaving z (kept.leaving t) (not_in t (is_leaving_entry z.seating) leaves);
    there = λ t. only_more (is_there_at h t) xs (berth_at berths t).there z (kept.there t) (not_in t (is_placed_entry z.seating || is_coming_entry z.seating) there);
  }

  -- it is the first of its tile
  module _ (t : ℕ) (home : tile_of h z.act ≡ t) (low_t : t < 16) (nobody : list_any (is_there_at h t) xs ≡ false) (leaves : is_leaving_entry z.seating ≡ false) (placed : (is_placed_entry z.seating || is_coming_entry z.seating) ≡ true) (b : Berth) (leaving : b.leaving ≡ (berth_at berths t).leaving) (there : b.there ≡ Some (length xs)) where
    within : t < length berths
    within = let e = kept.tiles in omega arith

    here : is_there_at h t z ≡ true
    here = let e : (tile_of h z.act == t) ≡ true = grind (arith, nat_tests, home) in rw (e, placed) refl

    there_now : (u : ℕ) → IsOnly (is_there_at h u) more (berth_at (set berths t b) u).there
    there_now u =
        ⊎_elim
        (λ (same : u ≡ t).
        subst (λ (v : ℕ). IsOnly (is_there_at h v) more (berth_at (set berths t b) v).there) (sym same) (
        subst (λ (o : Option ℕ). IsOnly (is_there_at h t) more o) (sym (ap (λ c. c.there) (berth_same berths t within b) ∙ there)) (only_last (is_there_at h t) xs z (any_none (is_there_at h t) xs nobody) here)
        ))
        (λ (ne : u ≡ t → ⊥).
        subst (λ (c : Berth). IsOnly (is_there_at h u) more c.there) (sym (berth_other berths t within b u ne)) (
        only_more (is_there_at h u) xs (berth_at berths u).there z (kept.there u) (ap (λ c. c && (is_placed_entry z.seating || is_coming_entry z.seating)) (elsewhere h t u z home ne))
        ))
        (cases_eq u t)

    pub tables_first : AreTables h more index_now (set berths t b)
    tables_first = record {
      acts = length-set index z.act (Some (length xs)) ∙ kept.acts;
      tiles = length-set berths t b ∙ kept.tiles;
      places = places_more;
      leaving = λ u. subst (λ (o : Option ℕ). IsOnly (is_leaving_at h u) more o) (sym (leaving_same berths t within b leaving u)) (only_more (is_leaving_at h u) xs (berth_at berths u).leaving z (kept.leaving u) (not_in u (is_leaving_entry z.seating) leaves));
      there = there_now;
    }

-- ---- the code's lists

pub opened_tables : (h : Site) (items : List CodeSeat) (index : List (Option ℕ)) (berths : List Berth) → items ≡ [] → index ≡ replicate 64 None → berths ≡ replicate 16 empty_berth → AreTables h (seats_of items) index berths
opened_tables h items index berths e f g =
    subst (λ (xs : List CodeSeat). AreTables h (seats_of xs) index berths) (sym e) (
    subst (λ (ts : List (Option ℕ)). AreTables h [] ts berths) (sym f) (
    subst (λ (bs : List Berth). AreTables h [] (replicate 64 None) bs) (sym g) (empty_tables h)
    )
    )

fresh_place : (k : Kernel) (a : ℕ) (o : Option ℕ) → IsOnly (is_of a) k.seats o → entry_of a k ≡ None → o ≡ None
fresh_place k a None only none = refl
fresh_place k a (Some i) only none =
    let p : IsSeatOf k a i = is_seat k a i only in
    let e : None ≡ Some p.seat = sym none ∙ p.found in
    absurd (cc)

module _ (s : State) (kept : IsKept s) (a : ℕ) (low : a < 64) (c : Option Context) (fresh : entry_of a (kernel_in s) ≡ None) (z : CodeSeat) (z_is : seat_value z ≡ new_seat a c) (items : List CodeSeat) (items_is : items ≡ s.seats.items ++ z ∷ []) (i n : ℕ) (place_is : i ≡ a) (count_is : n ≡ length s.seats.items) where
  abbrev h : Site
  h = s.site

  abbrev k : Kernel
  k = kernel_in s

  abbrev w : ActivityEntry
  w = seat_value z

  act_is : w.act ≡ a
  act_is = ap (λ v. v.act) z_is

  seats_now : seats_of items ≡ k.seats ++ new_seat a c ∷ []
  seats_now = ap seats_of items_is ∙ map-append seat_value s.seats.items (z ∷ []) ∙ ap (λ v. k.seats ++ v ∷ []) z_is

  abbrev index_then : List (Option ℕ)
  index_then = set s.index.items i (Some n)

  index_is : index_then ≡ set s.index.items a (Some (length k.seats))
  index_is = ap (λ j. set s.index.items j (Some n)) place_is ∙ ap (λ m. set s.index.items a (Some m)) (count_is ∙ sym (length-map s.seats.items seat_value))

  none_yet : get_or s.index.items a None ≡ None
  none_yet = fresh_place k a (get_or s.index.items a None) (kept.tables.places a) fresh

  then_tables : (berths : List Berth) → AreTables h (k.seats ++ new_seat a c ∷ []) (set s.index.items a (Some (length k.seats))) berths → AreTables h (seats_of items) index_then berths
  then_tables berths t =
      subst (λ (xs : List ActivityEntry). AreTables h xs index_then berths) (sym seats_now) (
      subst (λ (ts : List (Option ℕ)). AreTables h (k.seats ++ new_seat a c ∷ []) ts berths) (sym index_is) t
      )

  pub seat_rests : is_some c ≡ true → AreTables h (seats_of items) index_then s.berths.items
  seat_rests some = then_tables s.berths.items (
      tables_resting h k.seats s.index.items s.berths.items kept.tables (new_seat a c) low none_yet (rests_leaving c some) (rests_there c some)
      )
    where
      rests_leaving : (o : Option Context) → is_some o ≡ true → is_leaving_entry (opened_as o) ≡ false
      rests_leaving None e = absurd (cc)
      rests_leaving (Some x) e = refl

      rests_there : (o : Option Context) → is_some o ≡ true → (is_placed_entry (opened_as o) || is_coming_entry (opened_as o)) ≡ false
      rests_there None e = absurd (cc)
      rests_there (Some x) e = refl

  module _ (j : ℕ) (tile : j ≡ tile_of h a) (low_j : j < 16) (r : Berth) (was : r ≡ get_or s.berths.items j r) where
    abbrev first_berth : Berth
    first_berth = record { leaving = r.leaving; there = Some n }

    low_here : j < length s.berths.items
    low_here = let e = kept.tables.tiles in omega arith

    read : r ≡ berth_at s.berths.items j
    read = was ∙ get_or_default s.berths.items j r empty_berth low_here

    pub seat_first : is_some c ≡ false → HasPlaceFor (at_site s) a c → AreTables h (seats_of items) index_then (set s.berths.items j first_berth)
    seat_first none place = then_tables (set s.berths.items j first_berth) (
        tables_first h k.seats s.index.items s.berths.items kept.tables (new_seat a c) low none_yet j (sym tile) low_j (nobody c none place) (first_leaving c none) (first_there c none) first_berth (ap (λ b. b.leaving) read) (ap (λ m. Some m) (count_is ∙ sym (length-map s.seats.items seat_value)))
        )
      where
        nobody : (o : Option Context) → is_some o ≡ false → HasPlaceFor (at_site s) a o → list_any (is_there_at h j) k.seats ≡ false
        nobody None e p = ap (λ t. list_any (is_there_at h t) k.seats) tile ∙ p
        nobody (Some x) e p = absurd (cc)

        first_leaving : (o : Option Context) → is_some o ≡ false → is_leaving_entry (opened_as o) ≡ false
        first_leaving None e = refl
        first_leaving (Some x) e = absurd (cc)

        first_there : (o : Option Context) → is_some o ≡ false → (is_placed_entry (opened_as o) || is_coming_entry (opened_as o)) ≡ true
        first_there None e = refl
        first_there (Some x) e = absurd (cc)

  pub seat_held : IsHeldSet (seats_of items) s.held
  seat_held = subst (λ (xs : List ActivityEntry). IsHeldSet xs s.held) (sym seats_now) (held_more k.seats (new_seat a c) s.held refl kept.held)

  -- ---- the kernel then

  abbrev grown : Kernel
  grown = record k { seats = k.seats ++ new_seat a c ∷ [] }

  abbrev at_home : Kernel → KernelAt
  at_home q = record { site = h; kernel = q }

  pub seat_ready : is_some c ≡ true → (t : ℕ) → t ≡ tile_of h a → (joins : Bool) → joins ≡ has_program h a → (q : Scheduler) → q ≡ with_ready_if joins t a s.sched
      → at_home (record k { seats = seats_of items; ready = q.ready; yielded = q.yielded }) ≡ with_new_seat a c (at_site s)
  seat_ready some t tile joins program q joined =
      ap (λ xs. at_home (record k { seats = xs; ready = q.ready; yielded = q.yielded })) seats_now
      ∙ ap (λ (z : Scheduler). at_home (record grown { ready = z.ready; yielded = z.yielded })) joined
      ∙ ap at_home (sym (join_is joins t a grown))
      ∙ ap (λ b. at_home (join_ready b t a grown)) program
      ∙ ap (λ u. at_home (join_ready (has_program h a) u a grown)) tile
      ∙ ap (λ b. at_home (join_ready (b && has_program h a) (tile_of h a) a grown)) (sym some)

  pub seat_opened : is_some c ≡ false → at_home (record k { seats = seats_of items }) ≡ with_new_seat a c (at_site s)
  seat_opened none =
      ap (λ xs. at_home (record k { seats = xs })) seats_now
      ∙ ap (λ b. at_home (join_ready (b && has_program h a) (tile_of h a) a grown)) (sym none)

-- ---- a place for it

-- by what is kept of the tile
pub taken_by : (k : KernelAt) (t : ℕ) (o : Option ℕ) → IsOnly (is_there_at k.site t) k.kernel.seats o → is_some o ≡ is_taken k t
taken_by k t None only = sym (none_any (is_there_at k.site t) k.kernel.seats only)
taken_by k t (Some i) only =
    let own : is_number i (Some i) ≡ true = grind (arith, nat_tests) in
    sym (some_any (is_there_at k.site t) k.kernel.seats i (only i ∙ own))

-- where nobody is there, or with its context
pub has_place : (k : KernelAt) (a t : ℕ) (c : Option Context) → tile_of k.site a ≡ t → is_some c ≡ true → HasPlaceFor k a (resting_with (is_taken k t) c)
has_place k a t c home some = by_test (is_taken k t) refl c some
  where
    by_test : (b : Bool) → is_taken k t ≡ b → (c : Option Context) → is_some c ≡ true → HasPlaceFor k a (resting_with b c)
    by_test true e None f = absurd (cc)
    by_test true e (Some x) f = tt
    by_test false e c f = ap (is_taken k) home ∙ e
