-- The machine at opening: it is sound, and is the ideal opening and the opening of the places.
use Rattle.std.proofs.Common.{◌≡◌, ℕ, zero, suc, ◌+◌, ◌<◌, ◌≤◌, Bool, true, false, cond, List, [], ◌∷◌, ◌++◌, Some, None, refl, sym, subst, ◌∙◌, ap, arith, append_assoc, append-nil, set, get_or, map, replicate, Option}
use Rattle.std.specs.Prelude.{if◌then◌else◌, ◌==◌, ◌&&◌, is_some}
use Rattle.std.specs.List.{list_any}
use Rattle.std.proofs.lemmas.Bool.Decides.{nat_tests}
use Rattle.m3_base.specs.declared.setup_line.SetupLine.{SetupLine}
use Rattle.m3_base.specs.Lists.Counting.{one, how_many}
use Rattle.m3_base.specs.Ideal.State.{State}
use Rattle.m3_base.specs.Placement.State as places_state
use Rattle.m3_base.specs.Placement.Opening as places_opening
use Rattle.m3_base.specs.Placement.State.{Placement, PlacedActivity}
use Rattle.m3_base.specs.Lists.EachElement.{Each}
use Rattle.m3_model.specs.Config.Site.{Home, Site}
use Rattle.m3_model.specs.Parcel.{Parcel}
use Rattle.m3_model.specs.Kernel.State.{ActivityEntry}
use Rattle.m3_model.specs.Config.KnownActivities.{is_home}
use Rattle.m3_model.specs.Machine.{empty_tile}
use Rattle.m3_model.specs.Abstraction.{flat_map, flat_links}
use Rattle.m3_model.specs.Invariant.Housing.{IsPresent}
use Rattle.m3_refine.proofs.abstraction.OpeningLines.{home_in}
use Rattle.m3_refine.proofs.opening.PlaceOneByOne.{OpenSeat, place_home, place_homes}
use Rattle.m3_refine.proofs.opening.HomesAndContexts.{Along}
use Rattle.m3_base.specs.Lists.Counting.{total}
use Rattle.m3_base.specs.Ideal.State.{Grant}
use Rattle.m3_base.specs.Setup.Obligations.{LinesAreOk}
use Rattle.m3_base.specs.Ideal.Opening.{with_line, with_lines}
use Rattle.m3_model.specs.Config.FromSetup.{with_home, site_of}
use Rattle.m3_model.specs.Config.FromSetup as sites
use Rattle.m3_model.specs.Abstraction.{held_by, closed_from}
use Rattle.m3_refine.proofs.opening.HomesAndContexts.{act_along, grant_along}

-- ---- the lines of a setup, as homes and a quantum

abbrev pub homes_of : List ℕ → List SetupLine → List Home
homes_of programs [] = []
homes_of programs (SetupLine.Act a t ∷ ls) = record { act = a; tile = t; has_program = list_any (λ b. b == a) programs } ∷ homes_of programs ls
homes_of programs (l ∷ ls) = homes_of programs ls

abbrev pub quantum_of : ℕ → List SetupLine → ℕ
quantum_of q [] = q
quantum_of q (SetupLine.Quantum n ∷ ls) = quantum_of n ls
quantum_of q (l ∷ ls) = quantum_of q ls

-- activities live at tiles from 2 on
abbrev pub TilesOk : List SetupLine → Type 0
TilesOk [] = Unit {0}
TilesOk (SetupLine.Act a t ∷ ls) = ((2 ≤ t) × (t < 16)) × TilesOk ls
TilesOk (l ∷ ls) = TilesOk ls

pub site_is : (programs : List ℕ) (h : Site) (lines : List SetupLine) → sites.with_homes programs h lines ≡ record { homes = h.homes ++ homes_of programs lines; quantum = quantum_of h.quantum lines; memory = h.memory }
site_is programs h [] = λ k. record { homes = sym (append-nil h.homes) k; quantum = h.quantum; memory = h.memory }
site_is programs h (SetupLine.Act a t ∷ ls) =
    let x : Home = record { act = a; tile = t; has_program = list_any (λ b. b == a) programs } in
    site_is programs (record h { homes = h.homes ++ x ∷ [] }) ls
    ∙ (λ k. record { homes = append_assoc h.homes (x ∷ []) (homes_of programs ls) k; quantum = quantum_of h.quantum ls; memory = h.memory })
site_is programs h (SetupLine.Quantum n ∷ ls) = site_is programs (record h { quantum = n }) ls
site_is programs h (SetupLine.Grant line ∷ ls) = site_is programs h ls
site_is programs h (SetupLine.Files g ∷ ls) = site_is programs h ls
site_is programs h (SetupLine.Item a c ∷ ls) = site_is programs h ls
site_is programs h (SetupLine.AwaitItem a ep ∷ ls) = site_is programs h ls
site_is programs h (SetupLine.Writer a b c d e f g ∷ ls) = site_is programs h ls
site_is programs h (SetupLine.Reader a b c d e f ∷ ls) = site_is programs h ls
site_is programs h (SetupLine.Boxed a b c ∷ ls) = site_is programs h ls

-- ---- the places, as homes and a quantum

joined_quantum : (b : Bool) (t a q : ℕ) (p : Placement) → places_state.join_ready b t a (record p { quantum = q }) ≡ record (places_state.join_ready b t a p) { quantum = q }
joined_quantum true t a q p = refl
joined_quantum false t a q p = refl

place_quantum : (p : Placement) (q : ℕ) (x : Home) → place_home (record p { quantum = q }) x ≡ record (place_home p x) { quantum = q }
place_quantum p q x =
    let taken = list_any (λ y. y.home == x.tile) p.actors in
    joined_quantum (taken && x.has_program) x.tile x.act q (record p {
      current = if taken then p.current else set p.current x.tile (Some x.act);
      actors = p.actors ++ places_opening.opened_actor x.act x.tile (places_opening.place_at_opening x.tile p.actors) x.has_program ∷ [];
    })

pub places_quantum : (xs : List Home) (p : Placement) (q : ℕ) → place_homes (record p { quantum = q }) xs ≡ record (place_homes p xs) { quantum = q }
places_quantum [] p q = refl
places_quantum (x ∷ xs) p q = ap (λ z. place_homes z xs) (place_quantum p q x) ∙ places_quantum xs (place_home p x) q

same_quantum : (xs : List Home) (p : Placement) → (place_homes p xs).quantum ≡ p.quantum
same_quantum xs p = ap (λ z. z.quantum) (places_quantum xs p p.quantum)

pub lines_are : (programs : List ℕ) (lines : List SetupLine) (p : Placement) → places_opening.opened_lines programs p lines ≡ record (place_homes p (homes_of programs lines)) { quantum = quantum_of p.quantum lines }
lines_are programs [] p = refl
lines_are programs (SetupLine.Act a t ∷ ls) p =
    let x : Home = record { act = a; tile = t; has_program = list_any (λ b. b == a) programs } in
    lines_are programs ls (place_home p x)
    ∙ ap (λ q. record (place_homes (place_home p x) (homes_of programs ls)) { quantum = quantum_of q ls }) (same_quantum (x ∷ []) p)
lines_are programs (SetupLine.Quantum n ∷ ls) p =
    lines_are programs ls (record p { quantum = n }) ∙ ap (λ (z : Placement). record z { quantum = quantum_of n ls }) (places_quantum (homes_of programs ls) p n)
lines_are programs (SetupLine.Grant line ∷ ls) p = lines_are programs ls p
lines_are programs (SetupLine.Files g ∷ ls) p = lines_are programs ls p
lines_are programs (SetupLine.Item a c ∷ ls) p = lines_are programs ls p
lines_are programs (SetupLine.AwaitItem a ep ∷ ls) p = lines_are programs ls p
lines_are programs (SetupLine.Writer a b c d e f g ∷ ls) p = lines_are programs ls p
lines_are programs (SetupLine.Reader a b c d e f ∷ ls) p = lines_are programs ls p
lines_are programs (SetupLine.Boxed a b c ∷ ls) p = lines_are programs ls p

-- ---- the ideal opening

pub along_lines : (programs : List ℕ) (h : Site) (lines : List SetupLine) (s : State) (ds : List Home) → Along h s ds → LinesAreOk s lines → Each (λ x. is_home h x.act ≡ true) (homes_of programs lines)
    → Along h (with_lines s lines) (ds ++ homes_of programs lines)
along_lines programs h [] s ds l o k = subst (Along h s) (sym (append-nil ds)) l
along_lines programs h (SetupLine.Act a t ∷ ls) s ds l o k =
    let x : Home = record { act = a; tile = t; has_program = list_any (λ b. b == a) programs } in
    subst (Along h (with_lines (with_line s (SetupLine.Act a t)) ls)) (append_assoc ds (x ∷ []) (homes_of programs ls))
    (along_lines programs h ls (with_line s (SetupLine.Act a t)) (ds ++ x ∷ []) (act_along h s ds l x o.0.0 k.0) o.1 k.1)
along_lines programs h (SetupLine.Grant line ∷ ls) s ds l o k = along_lines programs h ls (with_line s (SetupLine.Grant line)) ds (grant_along h s ds l line o.0) o.1 k
along_lines programs h (SetupLine.Quantum n ∷ ls) s ds l o k = along_lines programs h ls s ds l o.1 k
along_lines programs h (SetupLine.Files g ∷ ls) s ds l o k = along_lines programs h ls s ds l o.1 k
along_lines programs h (SetupLine.Item a c ∷ ls) s ds l o k = along_lines programs h ls s ds l o.1 k
along_lines programs h (SetupLine.AwaitItem a ep ∷ ls) s ds l o k = along_lines programs h ls s ds l o.1 k
along_lines programs h (SetupLine.Writer a b c d e f g ∷ ls) s ds l o k = along_lines programs h ls s ds l o.1 k
along_lines programs h (SetupLine.Reader a b c d e f ∷ ls) s ds l o k = along_lines programs h ls s ds l o.1 k
along_lines programs h (SetupLine.Boxed a b c ∷ ls) s ds l o k = along_lines programs h ls s ds l o.1 k

-- each home of a list is found there
pub found_there : (front ds : List Home) → Each (λ x. IsPresent (home_in x.act (front ++ ds))) ds
found_there front [] = tt
found_there front (x ∷ ds) = (here front, subst (λ l. Each (λ x. IsPresent (home_in x.act l)) ds) (append_assoc front (x ∷ []) ds) (found_there (front ++ x ∷ []) ds))
  where
    here : (front : List Home) → IsPresent (home_in x.act (front ++ x ∷ ds))
    here [] = by_test (x.act == x.act) (grind (arith, nat_tests))
      where
        by_test : (b : Bool) → b ≡ true → IsPresent (cond b (Some x) (home_in x.act ds))
        by_test true k = tt
        by_test false k = absurd (cc)
    here (y ∷ front) = by_test (x.act == y.act) (here front)
      where
        by_test : (b : Bool) → IsPresent (home_in x.act (front ++ x ∷ ds)) → IsPresent (cond b (Some y) (home_in x.act (front ++ x ∷ ds)))
        by_test true k = tt
        by_test false k = k

pub there_home : (o : Option Home) → IsPresent o → is_some o ≡ true
there_home None k = absurd k
there_home (Some x) k = refl

pub tiles_in : (programs : List ℕ) (lines : List SetupLine) → TilesOk lines → Each (λ x. (2 ≤ x.tile) × (x.tile < 16)) (homes_of programs lines)
tiles_in programs [] k = tt
tiles_in programs (SetupLine.Act a t ∷ ls) k = (k.0, tiles_in programs ls k.1)
tiles_in programs (SetupLine.Quantum n ∷ ls) k = tiles_in programs ls k
tiles_in programs (SetupLine.Grant line ∷ ls) k = tiles_in programs ls k
tiles_in programs (SetupLine.Files g ∷ ls) k = tiles_in programs ls k
tiles_in programs (SetupLine.Item a c ∷ ls) k = tiles_in programs ls k
tiles_in programs (SetupLine.AwaitItem a ep ∷ ls) k = tiles_in programs ls k
tiles_in programs (SetupLine.Writer a b c d e f g ∷ ls) k = tiles_in programs ls k
tiles_in programs (SetupLine.Reader a b c d e f ∷ ls) k = tiles_in programs ls k
tiles_in programs (SetupLine.Boxed a b c ∷ ls) k = tiles_in programs ls k

-- ---- nothing is on any link

pub no_links : {Y : Type 0} (f : Parcel → List Y) (n : ℕ) → flat_links f (replicate n []) ≡ []
no_links f zero = refl
no_links f (suc n) = no_links f n

pub no_total : (f : List Parcel → ℕ) → f [] ≡ 0 → (n : ℕ) → total f (replicate n []) ≡ 0
no_total f e zero = refl
no_total f e (suc n) = let r = no_total f e n in omega arith

pub none_closed : (n : ℕ) (gs : List Grant) → closed_from n [] gs ≡ gs
none_closed n [] = refl
none_closed n (x ∷ gs) = λ k. x ∷ none_closed (n + 1) gs k

pub no_holds : (xs : List ActivityEntry) → Each OpenSeat xs → flat_map held_by xs ≡ []
no_holds [] k = refl
no_holds (x ∷ xs) k = ap (λ l. l ++ flat_map held_by xs) k.0.0 ∙ no_holds xs k.1

pub count_none : {X : Type 0} (p : X → Bool) (xs : List X) → Each (λ x. p x ≡ false) xs → how_many p xs ≡ 0
count_none p [] k = refl
count_none p (x ∷ xs) k = let r = count_none p xs k.1 in let d : one (p x) ≡ 0 = ap one k.0 in omega arith

-- ---- the first machine has nobody

pub blank_current : (ns : List ℕ) (u e : ℕ) → (get_or (map empty_tile ns) u (empty_tile e)).current ≡ None
blank_current [] u e = refl
blank_current (n ∷ ns) zero e = refl
blank_current (n ∷ ns) (suc u) e = blank_current ns u e

pub blank_stays : (ns : List ℕ) (u e : ℕ) → (get_or (map empty_tile ns) u (empty_tile e)).stays ≡ []
blank_stays [] u e = refl
blank_stays (n ∷ ns) zero e = refl
blank_stays (n ∷ ns) (suc u) e = blank_stays ns u e
