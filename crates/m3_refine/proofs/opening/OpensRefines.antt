-- A setup's machine opens sound, as the ideal machine and the places open.
use Rattle.std.proofs.Common.{◌≡◌, ℕ, zero, suc, ◌+◌, ◌*◌, ◌<◌, ◌≤◌, Bool, true, false, cond, List, [], ◌∷◌, ◌++◌, Some, None, refl, sym, subst, ◌∙◌, ap, arith, get_or, length, map, replicate, Option}
use Rattle.std.specs.Prelude.{◌==◌, ◌&&◌, is_some}
use Rattle.std.specs.List.{list_any}
use Rattle.std.proofs.lemmas.Bool.Decides.{nat_tests}
use Rattle.m3_base.specs.declared.setup_line.SetupLine.{SetupLine}
use Rattle.m3_base.specs.Lists.Keyed as keyed
use Rattle.m3_base.specs.Lists.Counting.{one, how_many}
use Rattle.m3_base.specs.Ideal.State.{State, context_of, same_act, DistinctActs}
use Rattle.m3_base.specs.Placement.Opening as places_opening
use Rattle.m3_base.specs.Placement.State.{Placement}
use Rattle.m3_base.specs.Lists.EachElement.{Each}
use Rattle.m3_merge.proofs.MergedIsRun.{each_map}
use Rattle.m3_model.specs.Config.Site.{Home, Site, home_act, home_of, tile_of, tile_in}
use Rattle.m3_model.specs.Parcel.{Parcel}
use Rattle.m3_model.specs.Kernel.State.{EntryResidency, Is_placed, Is_leaving, Is_resting, Is_coming, ActivityEntry}
use Rattle.m3_model.specs.Config.KnownActivities.{is_home, is_named_context}
use Rattle.m3_model.specs.Tile.Step.{resident_act, resident_of, act_in}
use Rattle.m3_model.specs.Kernel.Step.{entry_act, entry_of}
use Rattle.m3_model.specs.Machine.{Machine, empty_tile, tile_at, new_stay}
use Rattle.m3_model.specs.Abstraction.{flat_links, contexts_in, all_contexts, sorted_by_act, current_act, placement_of}
use Rattle.m3_model.specs.Invariant.Housing.{IsPresent}
use Rattle.m3_model.specs.Invariant.LinkWalk.{placed_on}
use Rattle.m3_refine.proofs.abstraction.FindActor.{apart-by_act}
use Rattle.m3_refine.proofs.abstraction.OpeningLines.{home_in}
use Rattle.m3_refine.proofs.opening.PlaceOneByOne.{OpenSeating, OpenSeat, place_homes, SeatedSoFar}
use Rattle.m3_refine.proofs.abstraction.OpeningLines.{Has}
use Rattle.m3_refine.proofs.opening.HomesAndContexts.{Along}
use Rattle.m3_base.specs.Ideal.State.{holder}
use Rattle.m3_base.specs.Setup.Obligations.{LinesAreOk}
use Rattle.m3_base.specs.Ideal.Opening.{opening}
use Rattle.m3_model.specs.Kernel.Step.{is_leaving_entry, is_leaving_at, is_coming_entry}
use Rattle.m3_model.specs.Machine.{empty_tiles, link_at, opened_machine}
use Rattle.m3_model.specs.Config.FromSetup.{site_of}
use Rattle.m3_model.specs.Abstraction.{packets_in, closed_in, all_packets, all_closed, is_in, closed_from, ideal_of}
use Rattle.m3_model.specs.Invariant.Distinct.{DistinctClosed}
use Rattle.m3_model.specs.Invariant.LinkWalk.{At, CurrentAlongLink}
use Rattle.m3_model.specs.Invariant.Structure.{MachineStructure}
use Rattle.m3_model.specs.Invariant.Parcels.{ParcelOk, YieldsBeforeSaved, EndedFlagIs}
use Rattle.m3_model.specs.Invariant.Scheduling.{EntryOk, HoldOk, is_save_of, saves_in_flight, is_leaving_of, is_coming_at}
use Rattle.m3_model.specs.Invariant.Housing.{resident_at}
use Rattle.m3_refine.proofs.opening.PlaceAll.{with_homes, all_seated}
use Rattle.m3_base.proofs.ListLookups.{get_replicated}
use Rattle.m3_refine.proofs.opening.OpensSound.{homes_of, quantum_of, TilesOk, site_is, lines_are, places_quantum, along_lines, found_there, there_home, tiles_in, no_links, no_total, none_closed, no_holds, count_none, blank_current, blank_stays}
use Rattle.m3_base.specs.Ideal.Flights.{sorted_by_name}
use Rattle.m3_base.specs.Ideal.FlightNames.{Distinct}
use Rattle.m3_base.proofs.Options.{some_if_some}
use Rattle.std.proofs.lemmas.List.{length-replicate}

open_leaving : (x : ActivityEntry) → OpenSeat x → is_leaving_entry x.seating ≡ false
open_leaving x k = by_seating x.act x.seating k.1
  where
    by_seating : (a : ℕ) (w : EntryResidency) → OpenSeating a w → is_leaving_entry w ≡ false
    by_seating a Is_placed k = refl
    by_seating a Is_leaving k = absurd k
    by_seating a (Is_resting y) k = refl
    by_seating a (Is_coming y) k = absurd k

open_coming : (x : ActivityEntry) → OpenSeat x → is_coming_entry x.seating ≡ false
open_coming x k = by_seating x.act x.seating k.1
  where
    by_seating : (a : ℕ) (w : EntryResidency) → OpenSeating a w → is_coming_entry w ≡ false
    by_seating a Is_placed k = refl
    by_seating a Is_leaving k = absurd k
    by_seating a (Is_resting y) k = refl
    by_seating a (Is_coming y) k = absurd k

and_false : (a b : Bool) → b ≡ false → (a && b) ≡ false
and_false true b e = e
and_false false b e = refl

-- what each element says is said of the one that is found
found_each : {X : Type 0} (key : X → ℕ) (P : X → Type 0) (a : ℕ) (xs : List X) (y : X) → Each P xs → keyed.find key same_act a xs ≡ Some y → P y × (key y ≡ a)
found_each key P a [] y k e = absurd (cc)
found_each key P a (x ∷ xs) y k e = by_test (a == key x) refl e (found_each key P a xs y k.1)
  where
    by_test : (b : Bool) → (a == key x) ≡ b → cond b (Some x) (keyed.find key same_act a xs) ≡ Some y → (keyed.find key same_act a xs ≡ Some y → P y × (key y ≡ a)) → P y × (key y ≡ a)
    by_test true d e ih =
        let q : x ≡ y = cc in
        let n : key x ≡ a = grind (arith, nat_tests, d) in
        (subst P q k.0, ap key (sym q) ∙ n)
    by_test false d e ih = ih e

not_none : {X : Type 0} (o : Option X) → (o ≡ None → ⊥) → IsPresent o
not_none None k = absurd (k refl)
not_none (Some x) k = tt

-- ---- a machine with all homes seated

module _ (h : Site) (s : State) (m : Machine) (l : Along h s h.homes) (high : Each (λ x. (2 ≤ x.tile) × (x.tile < 16)) h.homes) (j : SeatedSoFar h s h.homes m) where
  contexts_are : sorted_by_act (all_contexts m) ≡ s.contexts
  contexts_are = j.contexts ∙ l.match'

  no_packets : all_packets m ≡ []
  no_packets = (λ k. no_holds m.kernel.seats j.opens k ++ flat_links packets_in (j.links k)) ∙ no_links packets_in 256

  no_closed : all_closed m ≡ []
  no_closed = ap (flat_links closed_in) j.links ∙ no_links closed_in 256

  pub opened_at : ideal_of m ≡ s
  opened_at =
      (λ k. record {
        memory = j.memory k;
        contexts = contexts_are k;
        flights = sorted_by_name (no_packets k);
        kernel_next = j.next k;
        grants = closed_from 1 (no_closed k) m.kernel.grants;
      })
      ∙ (λ k. record { memory = s.memory; contexts = s.contexts; flights = sym l.flights k; kernel_next = s.kernel_next; grants = (none_closed 1 m.kernel.grants ∙ j.grants) k })

  no_parcels : (from to : ℕ) → link_at from to m ≡ []
  no_parcels from to = ap (λ z. get_or z (16 * from + to) []) j.links ∙ get_replicated 256 (16 * from + to) []

  a_home : (a : ℕ) → is_home h a ≡ true → (y : Home) × (home_of a h ≡ Some y)
  a_home a k = some_if_some (home_of a h) k

  stay_is : (a : ℕ) → is_home h a ≡ true → resident_at h m.tiles a ≡ Some (new_stay a)
  stay_is a k =
      let y = a_home a k in
      let f = found_each home_act (λ y. resident_of y.act (tile_at y.tile m) ≡ Some (new_stay y.act)) a h.homes y.0 j.stays y.1 in
      let t : tile_of h a ≡ y.0.tile = ap tile_in y.1 in
      ap (λ n. resident_of a (tile_at n m)) t ∙ subst (λ n. resident_of n (tile_at y.0.tile m) ≡ Some (new_stay n)) f.1 f.0

  has_seat : (a : ℕ) (x : ActivityEntry) → entry_of a m.kernel ≡ Some x → is_home h a ≡ true
  has_seat a x e = there_home (home_of a h) (not_none (home_of a h) (λ k. let n = j.unseated a k in absurd (cc)))

  seat_fine : (a : ℕ) (x : ActivityEntry) → entry_of a m.kernel ≡ Some x → EntryOk h m.tiles x x.seating × Each (HoldOk h x.act) x.hold
  seat_fine a x e =
      let f = found_each entry_act OpenSeat a m.kernel.seats x j.opens e in
      let its : is_home h x.act ≡ true = ap (is_home h) f.1 ∙ has_seat a x e in
      (by_seating x.seating f.0.0 f.0.1 (stay_is x.act its), subst (Each (HoldOk h x.act)) (sym f.0.0) tt)
    where
      by_seating : (w : EntryResidency) → x.hold ≡ [] → OpenSeating x.act w → resident_at h m.tiles x.act ≡ Some (new_stay x.act) → EntryOk h m.tiles x w
      by_seating Is_placed k o t = k
      by_seating Is_leaving k o t = absurd o
      by_seating (Is_resting y) k o t = (o.0, subst (EndedFlagIs y.ended) (sym t) (sym o.1))
      by_seating (Is_coming y) k o t = absurd o

  leaving_none : (a : ℕ) (o : Option ActivityEntry) → entry_of a m.kernel ≡ o → is_leaving_of o ≡ false
  leaving_none a None e = refl
  leaving_none a (Some x) e = open_leaving x (found_each entry_act OpenSeat a m.kernel.seats x j.opens e).0

  counts : (p : ActivityEntry → Bool) → ((x : ActivityEntry) → OpenSeat x → p x ≡ false) → how_many p m.kernel.seats ≡ 0
  counts p k = count_none p m.kernel.seats (each_map OpenSeat (λ x. p x ≡ false) k m.kernel.seats j.opens)

  walk_none : (t : ℕ) → CurrentAlongLink (current_act (tile_at t m)) (link_at 0 t m) (placed_on h t m.kernel)
  walk_none t = subst (λ qs. CurrentAlongLink (current_act (tile_at t m)) qs (placed_on h t m.kernel)) (sym (no_parcels 0 t)) (ap At (j.placed t))

  pub opened_sound : MachineStructure h m
  opened_sound =
      record {
        setup = record {
          homes = l.homes;
          tiles = λ a y e. (found_each home_act (λ x. (2 ≤ x.tile) × (x.tile < 16)) a h.homes y high e).0;
        };
        tiles = j.tiles;
        links = ap length j.links ∙ length-replicate {A = List Parcel} 256 [];
        acts = j.acts;
        known = λ a k.
            let y = a_home a k in
            let f = found_each home_act (Has s.contexts) a h.homes y.0 l.has y.1 in
            let there : context_of a s.contexts ≡ Some f.0.context = subst (λ n. context_of n s.contexts ≡ Some f.0.context) f.1 f.0.found in
            not_none (context_of a (all_contexts m)) (λ n. let z : context_of a s.contexts ≡ None = ap (context_of a) (sym contexts_are) ∙ apart-by_act a (all_contexts m) n in absurd (cc));
        named = j.named;
        names = subst Distinct (sym no_packets) tt;
        housed = record {
          seats = j.seats;
          tiles = j.number;
          stays = λ a k. subst IsPresent (sym (stay_is a k)) tt;
          current = j.current;
        };
        parcels = λ from to hf ht. subst (Each (ParcelOk h m.kernel m.tiles from to)) (sym (no_parcels from to)) tt;
        seated = record {
          seats = seat_fine;
          filled = λ t. let c = counts (is_coming_at h t) (λ x k. and_false (tile_of h x.act == t) (is_coming_entry x.seating) (open_coming x k)) in let f = j.filled t in omega arith;
          leaving = λ t. let c = counts (is_leaving_at h t) (λ x k. and_false (tile_of h x.act == t) (is_leaving_entry x.seating) (open_leaving x k)) in omega arith;
          departing = λ a. ap (saves_in_flight a) j.links ∙ no_total (λ qs. how_many (is_save_of a) qs) refl 256 ∙ sym (ap one (leaving_none a (entry_of a m.kernel) refl));
          walks = λ t low high. walk_none t;
          orderly = λ t high. subst YieldsBeforeSaved (sym (no_parcels t 0)) tt;
        };
        closed = subst DistinctClosed (sym no_closed) tt;
        shut = λ g e. absurd (let z = ap (λ l. is_in l g) no_closed in cc);
        holders = subst (Each (λ x. is_home h (holder x.line) ≡ true)) (sym j.grants) l.holders;
      }

-- ---- the first machine has nobody

-- these are the numbers from k on
abbrev Counts : ℕ → List ℕ → Type 0
Counts k [] = Unit {0}
Counts k (n ∷ ns) = (n ≡ k) × Counts (k + 1) ns

counted : (k : ℕ) (ns : List ℕ) (u e : ℕ) → Counts k ns → u < length ns → (get_or (map empty_tile ns) u (empty_tile e)).tile ≡ k + u
counted k [] u e c less = absurd (omega arith)
counted k (n ∷ ns) zero e c less = let z = c.0 in omega arith
counted k (n ∷ ns) (suc u) e c less = let r = counted (k + 1) ns u e c.1 (omega arith) in omega arith

first_number : (t : ℕ) → t < 16 → (get_or empty_tiles t (empty_tile t)).tile ≡ t
first_number t less =
    let r = counted 0 (0 ∷ 1 ∷ 2 ∷ 3 ∷ 4 ∷ 5 ∷ 6 ∷ 7 ∷ 8 ∷ 9 ∷ 10 ∷ 11 ∷ 12 ∷ 13 ∷ 14 ∷ 15 ∷ []) t t
    (refl, (refl, (refl, (refl, (refl, (refl, (refl, (refl, (refl, (refl, (refl, (refl, (refl, (refl, (refl, (refl, tt)))))))))))))))) less in
    omega arith

first_current : (t : ℕ) → (get_or empty_tiles t (empty_tile t)).current ≡ None
first_current t = blank_current (0 ∷ 1 ∷ 2 ∷ 3 ∷ 4 ∷ 5 ∷ 6 ∷ 7 ∷ 8 ∷ 9 ∷ 10 ∷ 11 ∷ 12 ∷ 13 ∷ 14 ∷ 15 ∷ []) t t

first_stays : (t : ℕ) → (get_or empty_tiles t (empty_tile t)).stays ≡ []
first_stays t = blank_stays (0 ∷ 1 ∷ 2 ∷ 3 ∷ 4 ∷ 5 ∷ 6 ∷ 7 ∷ 8 ∷ 9 ∷ 10 ∷ 11 ∷ 12 ∷ 13 ∷ 14 ∷ 15 ∷ []) t t

abbrev pub first_machine : State → Machine
first_machine s =
    record {
      kernel = record { seats = []; next = s.kernel_next; grants = s.grants; ready = replicate 16 []; yielded = replicate 16 false };
      memory = s.memory;
      tiles = empty_tiles;
      links = replicate 256 [];
    }

no_ready : (n t a : ℕ) → list_any (λ b. b == a) (get_or (replicate n []) t []) ≡ false
no_ready zero t a = refl
no_ready (suc n) zero a = refl
no_ready (suc n) (suc t) a = no_ready n t a

no_contexts : (s : State) → all_contexts (first_machine s) ≡ []
no_contexts s = no_links contexts_in 256

first_seated : (h : Site) (s : State) → SeatedSoFar h s [] (first_machine s)
first_seated h s =
    record {
      tiles = refl;
      readies = refl;
      memory = refl;
      links = refl;
      next = refl;
      grants = refl;
      number = first_number;
      seats = refl;
      seated = tt;
      unseated = λ a e. refl;
      opens = tt;
      contexts = ap sorted_by_act (no_contexts s);
      acts = subst DistinctActs (sym (no_contexts s)) tt;
      named = subst (Each (λ c. is_named_context h c ≡ true)) (sym (no_contexts s)) tt;
      stays = tt;
      unstayed = λ a t e. ap (keyed.find resident_act same_act a) (first_stays t);
      unready = λ a t e. no_ready 16 t a;
      taken = λ t. ap is_some (first_current t);
      current = λ t c e. absurd (let z = first_current t in cc);
      placed = λ t. ap act_in (first_current t);
      filled = λ t. refl;
    }

-- ---- the opening

module _ (memory : ℕ) (programs : List ℕ) (lines : List SetupLine) (obey : LinesAreOk (opening memory []) lines) (tiles : TilesOk lines) where
  abbrev h : Site
  h = site_of memory programs lines

  abbrev s : State
  s = opening memory lines

  site : site_of memory programs lines ≡ record { homes = homes_of programs lines; quantum = quantum_of 8 lines; memory = memory }
  site = site_is programs (record { homes = []; quantum = 8; memory = memory }) lines

  homes_are : (site_of memory programs lines).homes ≡ homes_of programs lines
  homes_are = ap (λ z. z.homes) site

  are_homes : Each (λ x. is_home h x.act ≡ true) (homes_of programs lines)
  are_homes =
      each_map (λ x. IsPresent (home_in x.act (homes_of programs lines))) (λ x. is_home h x.act ≡ true)
      (λ x k. there_home (home_of x.act h) (subst (λ l. IsPresent (home_in x.act l)) (sym homes_are) k)) (homes_of programs lines) (found_there [] (homes_of programs lines))

  nobody : Along h (opening memory []) []
  nobody =
      record {
        has = tt;
        declared = λ a k. absurd k;
        homes = tt;
        match' = refl;
        acts = tt;
        known = λ a k. absurd k;
        named = λ a c e. absurd (cc);
        holders = tt;
        flights = refl;
      }

  -- its homes come with the contexts of the opening
  pub along : Along h s h.homes
  along = subst (Along h s) (sym homes_are) (along_lines programs h lines (opening memory []) [] nobody obey are_homes)

  high : Each (λ x. (2 ≤ x.tile) × (x.tile < 16)) h.homes
  high = subst (Each (λ x. (2 ≤ x.tile) × (x.tile < 16))) (sym homes_are) (tiles_in programs lines tiles)

  all : SeatedSoFar h s h.homes (opened_machine memory programs lines) × (placement_of h (opened_machine memory programs lines) ≡ place_homes (placement_of (with_homes h []) (first_machine s)) h.homes)
  all = all_seated h s along high h.homes [] (first_machine s) refl (first_seated h s)

  -- all its homes are seated
  pub opens_seated : SeatedSoFar h s h.homes (opened_machine memory programs lines)
  opens_seated = all.0

  -- its ideal state is the ideal opening
  pub opens_at : ideal_of (opened_machine memory programs lines) ≡ opening memory lines
  opens_at = opened_at h s (opened_machine memory programs lines) along high all.0

  -- its places are the opening places
  pub opens_places : placement_of (site_of memory programs lines) (opened_machine memory programs lines) ≡ places_opening.opening_placement programs lines
  opens_places =
      let start : Placement = record {
        current = replicate 16 None;
        actors = [];
        links = replicate 256 [];
        ready = replicate 16 [];
        yielded = replicate 16 false;
        quantum = 8;
      } in
      all.1
      ∙ (λ k. place_homes (record start { quantum = quantum_is k }) (homes_are k))
      ∙ places_quantum (homes_of programs lines) start (quantum_of 8 lines)
      ∙ sym (lines_are programs lines start)
    where
      quantum_is : (site_of memory programs lines).quantum ≡ quantum_of 8 lines
      quantum_is = ap (λ z. z.quantum) site

  -- and it is sound
  pub opens_sound : MachineStructure (site_of memory programs lines) (opened_machine memory programs lines)
  opens_sound = opened_sound h s (opened_machine memory programs lines) along high all.0
