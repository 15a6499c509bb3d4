-- A step of the machine is a move of its parts over their links.
use Rattle.std.proofs.Common.{◌≡◌, ℕ, ◌+◌, ◌*◌, ◌<◌, ◌≤◌, Bool, true, false, cond, List, [], ◌∷◌, ◌++◌, Option, Some, None, refl, sym, subst, ◌∙◌, ap, arith, get_or, length, append_assoc}
use Rattle.std.specs.Prelude.{◌==◌, nat_lt}
use Rattle.std.proofs.lemmas.List.{append-nil, length-set}
use Rattle.std.proofs.lemmas.Bool.Decides.{nat_tests}
use Rattle.m3_base.specs.declared.event.Event.{Event}
use Rattle.m3_base.specs.declared.event.Made.{Made}
use Rattle.m3_base.specs.declared.event.Entry.{Entry}
use Rattle.m3_merge.specs.Interleaving.{Item, LinkMoves, from, to, takes, puts, either}
use Rattle.m3_model.specs.Config.Site.{Home, Site, home_of, tile_in, tile_of}
use Rattle.m3_model.specs.Parcel.{Parcel}
use Rattle.m3_model.specs.Tile.State.{Tile}
use Rattle.m3_model.specs.LocalStep.{LocalResult}
use Rattle.m3_model.specs.Machine.{Machine, MachineResult, Part, Kernel_part, Memory_part, Tile_part, part_at, with_part, link_at, with_link, with_parcel, with_parcels, of_turn, tile_at, part_step, tile_for_event, front, rest, parcel_taken, without_front, done_by, machine_step}
use Rattle.m3_model.specs.Invariant.Housing.{IsSetup}
use Rattle.m3_model.specs.Invariant.Structure.{MachineStructure}
use Rattle.m3_model.specs.Events.{IsWithin}
use Rattle.m3_model.specs.Tile.Step.{tile_turn}
use Rattle.m3_model.specs.LocalMoves.{parcel_of, TakesFrom, Steps, MovesBy, MovesByEntry}
use Rattle.m3_refine.proofs.theorem.NoProgramMoves.{AreTiles, TameIn, IsNoTurn, OrdersTile, part_tame}
use Rattle.m3_refine.proofs.lists.Update.{get_or-set, same_link}

-- ---- parts

-- a part of the kind that this tile has
abbrev pub IsPartOf : ℕ → Part → Type 0
IsPartOf t (Kernel_part k) = t ≡ 0
IsPartOf t (Memory_part x) = t ≡ 1
IsPartOf t (Tile_part x) = 2 ≤ t

part_here : (t : ℕ) (x : Part) (m : Machine) → length m.tiles ≡ 16 → t < 16 → IsPartOf t x → part_at t (with_part t x m) ≡ x
part_here t (Kernel_part k) m len low is = grind (arith, nat_tests, is)
part_here t (Memory_part x) m len low is = grind (arith, nat_tests, is)
part_here t (Tile_part x) m len low is =
    let e = get_or-set m.tiles t t x (record { tile = t; current = None; stays = [] }) (omega arith) in
    grind (arith, nat_tests, is, e)

part_there : (t u : ℕ) (x : Part) (m : Machine) → length m.tiles ≡ 16 → t < 16 → IsPartOf t x → (t == u) ≡ false → part_at u (with_part t x m) ≡ part_at u m
part_there t u (Kernel_part k) m len low is other = grind (arith, nat_tests, is, other)
part_there t u (Memory_part x) m len low is other = grind (arith, nat_tests, is, other)
part_there t u (Tile_part x) m len low is other =
    let e = get_or-set m.tiles t u x (record { tile = u; current = None; stays = [] }) (omega arith) in
    grind (arith, nat_tests, is, other, e)

parts_pushed : (t u : ℕ) (out : List (ℕ × Parcel)) (m : Machine) → part_at u (with_parcels t out m) ≡ part_at u m
parts_pushed t u [] m = refl
parts_pushed t u (x ∷ xs) m = parts_pushed t u xs (with_parcel t x m)

parts_popped : (u : ℕ) (e : Event) (m : Machine) → part_at u (without_front e m) ≡ part_at u m
parts_popped u (Event.Take dest source) m = refl
parts_popped u (Event.Do a c) m = refl
parts_popped u (Event.Turn a) m = refl
parts_popped u (Event.Tend a) m = refl
parts_popped u Event.Close m = refl
parts_popped u (Event.Order o) m = refl
parts_popped u (Event.File l) m = refl

-- ---- links

link_pushed : (t : ℕ) (x : ℕ × Parcel) (s d : ℕ) (m : Machine) → length m.links ≡ 256 → t < 16 → x.0 < 16 → d < 16 → link_at s d (with_parcel t x m) ≡ link_at s d m ++ cond (t == s) (cond (x.0 == d) (x.1 ∷ []) []) []
link_pushed t x s d m len ht hx hd = get_or-set m.links (16 * t + x.0) (16 * s + d) (link_at t x.0 m ++ x.1 ∷ []) [] (omega arith) ∙ by_test (16 * t + x.0 == 16 * s + d) refl (t == s) refl (x.0 == d) refl
  where
    by_test : (z : Bool) → (16 * t + x.0 == 16 * s + d) ≡ z → (y : Bool) → (t == s) ≡ y → (w : Bool) → (x.0 == d) ≡ w
        → cond z (link_at t x.0 m ++ x.1 ∷ []) (link_at s d m) ≡ link_at s d m ++ cond y (cond w (x.1 ∷ []) []) []
    by_test true e true f true g = let same = same_link t x.0 s d hx hd e in ap (λ l. l ++ x.1 ∷ []) (ap (λ a. link_at a x.0 m) same.0 ∙ ap (λ b. link_at s b m) same.1)
    by_test true e true f false g = absurd (grind (arith, nat_tests, same_link t x.0 s d hx hd e, g))
    by_test true e false f w g = absurd (grind (arith, nat_tests, same_link t x.0 s d hx hd e, f))
    by_test false e true f true g = absurd (grind (arith, nat_tests, e, f, g))
    by_test false e true f false g = sym (append-nil (link_at s d m))
    by_test false e false f w g = sym (append-nil (link_at s d m))

links_pushed : (t : ℕ) (out : List (ℕ × Parcel)) (s d : ℕ) (m : Machine) → length m.links ≡ 256 → t < 16 → AreTiles out → d < 16 → link_at s d (with_parcels t out m) ≡ link_at s d m ++ cond (t == s) (to d out) []
links_pushed t [] s d m len ht are hd = by_test (t == s)
  where
    by_test : (y : Bool) → link_at s d m ≡ link_at s d m ++ cond y [] []
    by_test true = sym (append-nil (link_at s d m))
    by_test false = sym (append-nil (link_at s d m))
links_pushed t (x ∷ xs) s d m len ht are hd =
    links_pushed t xs s d (with_parcel t x m) (length-set m.links (16 * t + x.0) (link_at t x.0 m ++ x.1 ∷ []) ∙ len) ht are.1 hd
    ∙ ap (λ l. l ++ cond (t == s) (to d xs) []) (link_pushed t x s d m len ht are.0 hd)
    ∙ append_assoc (link_at s d m) (cond (t == s) (cond (x.0 == d) (x.1 ∷ []) []) []) (cond (t == s) (to d xs) [])
    ∙ ap (λ l. link_at s d m ++ l) (by_test (t == s) (x.0 == d))
  where
    by_test : (y w : Bool) → cond y (cond w (x.1 ∷ []) []) [] ++ cond y (to d xs) [] ≡ cond y (cond w (x.1 ∷ to d xs) (to d xs)) []
    by_test true true = refl
    by_test true false = refl
    by_test false w = refl

abbrev pub by_front : ℕ → Option Parcel → Option (ℕ × Parcel)
by_front source None = None
by_front source (Some q) = Some (source, q)

-- what the event takes, with the tile that it comes from
abbrev pub took_from : Event → Machine → Option (ℕ × Parcel)
took_from (Event.Take dest source) m = by_front source (front (link_at source dest m))
took_from event m = None

taken_front : (source s : ℕ) (ps : List Parcel) → source ≡ s → ps ≡ from s (by_front source (front ps)) ++ rest ps
taken_front source s [] e = refl
taken_front source s (q ∷ qs) e = grind (arith, nat_tests, e)

taken_none : (source s : ℕ) (ps : List Parcel) → (source == s) ≡ false → from s (by_front source (front ps)) ≡ []
taken_none source s [] e = refl
taken_none source s (q ∷ qs) e = ap (λ b. cond b (q ∷ []) []) e

link_popped : (dest source s d : ℕ) (m : Machine) → length m.links ≡ 256 → dest < 16 → source < 16 → d < 16
    → link_at s d m ≡ cond (dest == d) (from s (by_front source (front (link_at source dest m)))) [] ++ link_at s d (with_link source dest (rest (link_at source dest m)) m)
link_popped dest source s d m len hd hs hb =
    by_test (16 * source + dest == 16 * s + d) refl (dest == d) refl (source == s) refl
    ∙ ap (λ l. cond (dest == d) (from s (by_front source (front (link_at source dest m)))) [] ++ l)
    (sym (get_or-set m.links (16 * source + dest) (16 * s + d) (rest (link_at source dest m)) [] (omega arith)))
  where
    by_test : (z : Bool) → (16 * source + dest == 16 * s + d) ≡ z → (y : Bool) → (dest == d) ≡ y → (w : Bool) → (source == s) ≡ w
        → link_at s d m ≡ cond y (from s (by_front source (front (link_at source dest m)))) [] ++ cond z (rest (link_at source dest m)) (link_at s d m)
    by_test true e true f w g =
        let same = same_link source dest s d hd hb e in
        sym (ap (λ a. link_at a dest m) same.0 ∙ ap (λ b. link_at s b m) same.1) ∙ taken_front source s (link_at source dest m) same.0
    by_test true e false f w g = absurd (grind (arith, nat_tests, same_link source dest s d hd hb e, f))
    by_test false e true f true g = absurd (grind (arith, nat_tests, e, f, g))
    by_test false e true f false g = ap (λ l. l ++ link_at s d m) (sym (taken_none source s (link_at source dest m) g))
    by_test false e false f w g = refl

-- ---- the step

abbrev pub KindIn : ℕ → Option (LocalResult Part) → Type 0
KindIn t None = Unit {0}
KindIn t (Some d) = IsPartOf t d.part

part_is : (t : ℕ) (m : Machine) → IsPartOf t (part_at t m)
part_is t m = by_test (t == 0) refl (t == 1) refl
  where
    by_test : (a : Bool) → (t == 0) ≡ a → (b : Bool) → (t == 1) ≡ b → IsPartOf t (cond a (Kernel_part m.kernel) (cond b (Memory_part m.memory) (Tile_part (tile_at t m))))
    by_test true e b f = grind (arith, nat_tests, e)
    by_test false e true f = grind (arith, nat_tests, f)
    by_test false e false f = grind (arith, nat_tests, e, f)

turn_kind : (t : ℕ) (o : Option (LocalResult Tile)) → 2 ≤ t → KindIn t (of_turn o)
turn_kind t None high = tt
turn_kind t (Some d) high = high

-- a part stays of its kind
kind_kept : (h : Site) (t : ℕ) (x : Part) (e : Event) (made : Option Made) (q : Option Parcel) → IsPartOf t x → KindIn t (part_step h x e made q)
kind_kept h t (Kernel_part k) (Event.Take dest source) made (Some q) is = is
kind_kept h t (Memory_part x) (Event.Take dest source) made (Some q) is = is
kind_kept h t (Tile_part x) (Event.Take dest source) made (Some q) is = is
kind_kept h t (Kernel_part k) (Event.Take dest source) made None is = is
kind_kept h t (Memory_part x) (Event.Take dest source) made None is = is
kind_kept h t (Tile_part x) (Event.Take dest source) made None is = is
kind_kept h t (Kernel_part k) (Event.Do a c) made q is = tt
kind_kept h t (Memory_part x) (Event.Do a c) made q is = tt
kind_kept h t (Tile_part x) (Event.Do a c) made q is = is
kind_kept h t (Kernel_part k) (Event.Turn a) made q is = tt
kind_kept h t (Memory_part x) (Event.Turn a) made q is = tt
kind_kept h t (Tile_part x) (Event.Turn a) made q is = turn_kind t (tile_turn h x a made) is
kind_kept h t (Kernel_part k) (Event.Tend a) made q is = is
kind_kept h t (Memory_part x) (Event.Tend a) made q is = tt
kind_kept h t (Tile_part x) (Event.Tend a) made q is = tt
kind_kept h t (Kernel_part k) Event.Close made q is = is
kind_kept h t (Memory_part x) Event.Close made q is = tt
kind_kept h t (Tile_part x) Event.Close made q is = tt
kind_kept h t (Kernel_part k) (Event.Order o) made q is = is
kind_kept h t (Memory_part x) (Event.Order o) made q is = tt
kind_kept h t (Tile_part x) (Event.Order o) made q is = tt
kind_kept h t (Kernel_part k) (Event.File l) made q is = tt
kind_kept h t (Memory_part x) (Event.File l) made q is = tt
kind_kept h t (Tile_part x) (Event.File l) made q is = tt

taken_parcel : (e : Event) (m : Machine) → parcel_of (took_from e m) ≡ parcel_taken e m
taken_parcel (Event.Take dest source) m = by_cases (front (link_at source dest m))
  where
    by_cases : (o : Option Parcel) → parcel_of (by_front source o) ≡ o
    by_cases None = refl
    by_cases (Some q) = refl
taken_parcel (Event.Do a c) m = refl
taken_parcel (Event.Turn a) m = refl
taken_parcel (Event.Tend a) m = refl
taken_parcel Event.Close m = refl
taken_parcel (Event.Order o) m = refl
taken_parcel (Event.File l) m = refl

takes_from : (e : Event) (m : Machine) → TakesFrom e (took_from e m)
takes_from (Event.Take dest source) m = by_cases (front (link_at source dest m))
  where
    by_cases : (o : Option Parcel) → TakesFrom (Event.Take dest source) (by_front source o)
    by_cases None = tt
    by_cases (Some q) = refl
takes_from (Event.Do a c) m = tt
takes_from (Event.Turn a) m = tt
takes_from (Event.Tend a) m = tt
takes_from Event.Close m = tt
takes_from (Event.Order o) m = tt
takes_from (Event.File l) m = tt

-- what one step of a part is to the whole: the part's entry, with what it took and what it sent
abbrev pub item : Site → Machine → Event → LocalResult Part → Item Entry Parcel
item h m e d = record { tile = tile_for_event h e; stamp = 0; entry = record { event = e; outcome = d.outcome }; took = took_from e m; out = d.out }

none_of : {X : Type 0} (b : Bool) (xs : List X) → cond b [] [] ++ xs ≡ xs
none_of true xs = refl
none_of false xs = refl

-- there is no link beyond the tiles, and nothing goes there
none_taken : (s u : ℕ) (h : Site) (m : Machine) (e : Event) (d : LocalResult Part) → nat_lt u 16 ≡ false → tile_for_event h e < 16 → [] ≡ takes s u (item h m e d) ++ []
none_taken s u h m e d far low = by_test (tile_for_event h e == u) refl
  where
    by_test : (b : Bool) → (tile_for_event h e == u) ≡ b → [] ≡ cond b (from s (took_from e m)) [] ++ []
    by_test true f = absurd (grind (arith, nat_tests, f, far))
    by_test false f = refl

to_none : (u : ℕ) (out : List (ℕ × Parcel)) → nat_lt u 16 ≡ false → AreTiles out → [] ≡ to u out
to_none u [] far are = refl
to_none u (x ∷ xs) far are = by_test (to_none u xs far are.1) (x.0 == u) refl
  where
    by_test : [] ≡ to u xs → (b : Bool) → (x.0 == u) ≡ b → [] ≡ cond b (x.1 ∷ to u xs) (to u xs)
    by_test more true f = absurd (grind (arith, nat_tests, f, far, are.0))
    by_test more false f = more

none_put : (s u : ℕ) (h : Site) (m : Machine) (e : Event) (d : LocalResult Part) → nat_lt u 16 ≡ false → AreTiles d.out → [] ≡ puts s u (item h m e d)
none_put s u h m e d far are = by_test (tile_for_event h e == s)
  where
    by_test : (b : Bool) → [] ≡ cond b (to u d.out) []
    by_test true = to_none u d.out far are
    by_test false = refl

-- the links, and what is left of them when the event has taken its parcel
link_left : (h : Site) (e : Event) (s d : ℕ) (m : Machine) → length m.links ≡ 256 → IsWithin e → d < 16
    → link_at s d m ≡ cond (tile_for_event h e == d) (from s (took_from e m)) [] ++ link_at s d (without_front e m)
link_left h (Event.Take dest source) s d m len w hd = link_popped dest source s d m len w.0 w.1 hd
link_left h (Event.Do a c) s d m len w hd = sym (none_of (tile_of h a == d) (link_at s d m))
link_left h (Event.Turn a) s d m len w hd = sym (none_of (tile_of h a == d) (link_at s d m))
link_left h (Event.Tend a) s d m len w hd = sym (none_of (0 == d) (link_at s d m))
link_left h Event.Close s d m len w hd = sym (none_of (0 == d) (link_at s d m))
link_left h (Event.Order o) s d m len w hd = sym (none_of (0 == d) (link_at s d m))
link_left h (Event.File l) s d m len w hd = sym (none_of (0 == d) (link_at s d m))

popped_links : (e : Event) (m : Machine) → length (without_front e m).links ≡ length m.links
popped_links (Event.Take dest source) m = length-set m.links (16 * source + dest) (rest (link_at source dest m))
popped_links (Event.Do a c) m = refl
popped_links (Event.Turn a) m = refl
popped_links (Event.Tend a) m = refl
popped_links Event.Close m = refl
popped_links (Event.Order o) m = refl
popped_links (Event.File l) m = refl

popped_tiles : (e : Event) (m : Machine) → length (without_front e m).tiles ≡ length m.tiles
popped_tiles (Event.Take dest source) m = refl
popped_tiles (Event.Do a c) m = refl
popped_tiles (Event.Turn a) m = refl
popped_tiles (Event.Tend a) m = refl
popped_tiles Event.Close m = refl
popped_tiles (Event.Order o) m = refl
popped_tiles (Event.File l) m = refl

links_stay : (t : ℕ) (x : Part) (m : Machine) → (with_part t x m).links ≡ m.links
links_stay t (Kernel_part k) m = refl
links_stay t (Memory_part x) m = refl
links_stay t (Tile_part x) m = refl

module _ (h : Site) (m : Machine) (e : Event) (d : LocalResult Part) (tiles : length m.tiles ≡ 16) (links : length m.links ≡ 256) (low : tile_for_event h e < 16)
    (within : IsWithin e) (out : AreTiles d.out) (step : part_step h (part_at (tile_for_event h e) m) e d.outcome.made (parcel_taken e m) ≡ Some d) where
  abbrev t : ℕ
  t = tile_for_event h e

  abbrev after : Machine
  after = with_parcels t d.out (with_part t d.part (without_front e m))

  kind : IsPartOf t d.part
  kind = subst (KindIn t) step (kind_kept h t (part_at t m) e d.outcome.made (parcel_taken e m) (part_is t m))

  same_part : (u : ℕ) (b : Bool) → (t == u) ≡ b → either b (Steps h u (part_at u m) (item h m e d) (part_at u after)) (part_at u after ≡ part_at u m)
  same_part u true f =
      let same : t ≡ u = grind (arith, nat_tests, f) in
      let there : part_at t after ≡ d.part = parts_pushed t t d.out (with_part t d.part (without_front e m)) ∙ part_here t d.part (without_front e m) (popped_tiles e m ∙ tiles) low kind in
      subst (λ v. Steps h v (part_at v m) (item h m e d) (part_at v after)) same (
      record {
        tile = refl;
        from = takes_from e m;
        step =
            ap (part_step h (part_at t m) e d.outcome.made) (taken_parcel e m) ∙ step
            ∙ ap (λ (x : Part). Some (record { outcome = d.outcome; part = x; out = d.out })) (sym there);
      }
      )
  same_part u false f =
      parts_pushed t u d.out (with_part t d.part (without_front e m)) ∙ part_there t u d.part (without_front e m) (popped_tiles e m ∙ tiles) low kind f ∙ parts_popped u e m

  link_moves : (s u : ℕ) (b : Bool) → nat_lt u 16 ≡ b
      → LinkMoves (takes s u (item h m e d)) (puts s u (item h m e d)) (cond b (link_at s u m) []) (cond b (link_at s u after) [])
  link_moves s u true f =
      let hu : u < 16 = grind (arith, nat_tests, f) in (
        link_at s u (without_front e m),
        link_left h e s u m links within hu,
        links_pushed t d.out s u (with_part t d.part (without_front e m)) (ap length (links_stay t d.part (without_front e m)) ∙ popped_links e m ∙ links) low out hu
            ∙ ap (λ ls. get_or ls (16 * s + u) [] ++ puts s u (item h m e d)) (links_stay t d.part (without_front e m)),
      )
  link_moves s u false f = ([], nothing_taken, nothing_put)
    where
      nothing_taken : [] ≡ takes s u (item h m e d) ++ []
      nothing_taken = none_taken s u h m e d f low

      nothing_put : [] ≡ [] ++ puts s u (item h m e d)
      nothing_put = none_put s u h m e d f out

  -- the machine's step moves the part of the event's tile, and the links by what it took and sent
  pub moves : MovesBy h m (item h m e d) after
  moves = record { parts = λ u. same_part u (t == u) refl; links = λ s u. link_moves s u (nat_lt u 16) refl }

-- ---- any step that no program makes

pub tile_below : (h : Site) → IsSetup h → (a : ℕ) (o : Option Home) → home_of a h ≡ o → tile_in o < 16
tile_below h setup a None e = omega arith
tile_below h setup a (Some y) e = (setup.tiles a y e).1

pub homes_below : (h : Site) → IsSetup h → (a : ℕ) → tile_of h a < 16
homes_below h setup a = tile_below h setup a (home_of a h) refl

pub event_below : (h : Site) → ((a : ℕ) → tile_of h a < 16) → (e : Event) → IsWithin e → tile_for_event h e < 16
event_below h low (Event.Do a c) within = low a
event_below h low (Event.Turn a) within = low a
event_below h low (Event.Take dest source) within = within.0
event_below h low (Event.Tend a) within = omega arith
event_below h low Event.Close within = omega arith
event_below h low (Event.Order o) within = omega arith
event_below h low (Event.File l) within = omega arith

module _ (h : Site) (m : Machine) (e : Event) (sound : MachineStructure h m) (within : IsWithin e) (unmade : IsNoTurn e) (high : OrdersTile e) where
  by_deed : (o : Option (LocalResult Part)) → part_step h (part_at (tile_for_event h e) m) e None (parcel_taken e m) ≡ o → TameIn o → (d : MachineResult) → done_by (tile_for_event h e) (without_front e m) o ≡ Some d
      → MovesByEntry h m (record { event = e; outcome = d.outcome }) d.machine
  by_deed None step tame d done = absurd (cc)
  by_deed (Some x) step tame d done =
      let did : record { outcome = x.outcome; machine = with_parcels (tile_for_event h e) x.out (with_part (tile_for_event h e) x.part (without_front e m)) } ≡ d = cc in
      subst (λ (z : MachineResult). MovesByEntry h m (record { event = e; outcome = z.outcome }) z.machine) did (
      record {
        item = item h m e x;
        is = refl;
        moves =
            moves h m e x sound.tiles sound.links (event_below h (homes_below h sound.setup) e within) within tame.out
            (subst (λ (z : Option Made). part_step h (part_at (tile_for_event h e) m) e z (parcel_taken e m) ≡ Some x) (sym tame.made) step);
      }
      )

  pub step_moves : (d : MachineResult) → machine_step h m e None ≡ Some d → MovesByEntry h m (record { event = e; outcome = d.outcome }) d.machine
  step_moves d step = by_deed (part_step h (part_at (tile_for_event h e) m) e None (parcel_taken e m)) refl (part_tame h (homes_below h sound.setup) (part_at (tile_for_event h e) m) e None (parcel_taken e m) unmade high) d step
