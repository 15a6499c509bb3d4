-- The kernel takes the Closed of a grant: the grant is done.
use Rattle.std.proofs.Common.{◌≡◌, ℕ, zero, suc, ◌+◌, ◌-◌, ◌*◌, ◌<◌, ◌≤◌, Bool, true, false, cond, List, [], ◌∷◌, ◌++◌, Some, None, refl, sym, subst, ◌∙◌, ap, arith, set, length, map, Option}
use Rattle.std.specs.Prelude.{if◌then◌else◌, ◌==◌, ◌||◌, slice_get}
use Rattle.std.proofs.lemmas.Bool.Decides.{nat_tests}
use Rattle.std.proofs.lemmas.List.{map-set}
use Rattle.m3_base.specs.declared.event.Event.{Event}
use Rattle.m3_base.specs.declared.event.Said.{Said}
use Rattle.m3_base.specs.declared.step.Step.{Step}
use Rattle.m3_base.specs.Ideal.State.{Grant, State, context_of, grant_in, holder, DistinctActs}
use Rattle.m3_base.specs.Ideal.State as ideal
use Rattle.m3_base.specs.Ideal.GrantRules.{change_grant, set_some}
use Rattle.m3_base.specs.Ideal.Step.{Finishes, ideal_run, on_from, done_in}
use Rattle.m3_base.specs.Journal.Entry.{said_of}
use Rattle.m3_base.specs.Placement.State as places_state
use Rattle.m3_base.specs.Placement.Take as places_take
use Rattle.m3_base.specs.Placement.Landing as places_landing
use Rattle.m3_base.specs.Placement.Landing.{said_or_nothing}
use Rattle.m3_base.specs.Lists.EachElement.{Each}
use Rattle.m3_merge.proofs.MergedIsRun.{each_map}
use Rattle.m3_refine.proofs.abstraction.ReplaceEntry.{parcel_kernel}
use Rattle.m3_model.specs.Config.Site.{Site}
use Rattle.m3_model.specs.Parcel.{Parcel, Closed}
use Rattle.m3_model.specs.LocalStep.{dropped_result}
use Rattle.m3_model.specs.Config.KnownActivities.{is_home, is_named_context}
use Rattle.m3_model.specs.Kernel.Step.{is_under_close, done_grant, take_closed}
use Rattle.m3_model.specs.Machine.{Machine, tile_at, link_at, with_link, machine_step, done_by, of_kernel}
use Rattle.m3_model.specs.Abstraction.{flat_map, tile_contexts, entry_contexts, held_by, contexts_in, packets_in, closed_in, all_contexts, all_packets, all_closed, is_in, sorted_by_act, closed_if, closed_from, ideal_of, link_token, current_act, placement_of}
use Rattle.m3_model.specs.Invariant.Distinct.{DistinctClosed}
use Rattle.m3_model.specs.Invariant.Housing.{IsPresent}
use Rattle.m3_model.specs.Invariant.Structure.{CloseWasSent, MachineStructure}
use Rattle.m3_model.specs.Invariant.Parcels.{ParcelOk}
use Rattle.m3_model.specs.Invariant.LinkWalk.{CurrentAlongLink, placed_on}
use Rattle.m3_model.specs.Invariant.Scheduling.{saves_in_flight}
use Rattle.m3_model.specs.Refinement.{Refines}
use Rattle.m3_refine.proofs.lists.Insertion.{Inserts, pop_none, pop_one}
use Rattle.m3_refine.proofs.abstraction.FindActor.{tokens}
use Rattle.m3_refine.proofs.lists.Update.{is_link, links_set}
use Rattle.m3_refine.proofs.lists.PerLink.{pop_length, pop_each, pop_leavings, pop_orderly}
use Rattle.m3_refine.proofs.abstraction.ClosedGrants.{in_inserts, closed_later, numbered}
use Rattle.m3_refine.proofs.events.take.KernelTakesDataOrYield.{kernel_step, link_is}
use Rattle.m3_base.specs.Ideal.Flights.{sorted_by_name}
use Rattle.m3_base.specs.Ideal.FlightNames.{Distinct}
use Rattle.m3_base.proofs.GrantsByNumber.{grant_in-suc as numbered_back}

-- ---- one Closed fewer

in_parts : (n g : ℕ) (f b : List ℕ) → is_in (f ++ g ∷ b) n ≡ false → ((g == n) ≡ false) × (is_in (f ++ b) n ≡ false)
in_parts n g [] b e = (grind (arith, nat_tests, e), grind (arith, nat_tests, e))
in_parts n g (x ∷ f) b e = let r = in_parts n g f b in (grind (arith, nat_tests, e, r), grind (arith, nat_tests, e, r))

closed_middle : (f : List ℕ) (g : ℕ) (b : List ℕ) → DistinctClosed (f ++ g ∷ b) → is_in (f ++ b) g ≡ false
closed_middle [] g b h = h.0
closed_middle (x ∷ f) g b h =
    let d : (g == x) ≡ false = (in_parts x g f b h.0).0 in
    let r = closed_middle f g b h.1 in
    let k : (x == g) ≡ false = grind (arith, nat_tests, d) in
    grind (arith, k, r)

closed_less : (f : List ℕ) (g : ℕ) (b : List ℕ) → DistinctClosed (f ++ g ∷ b) → DistinctClosed (f ++ b)
closed_less [] g b h = h.1
closed_less (x ∷ f) g b h = ((in_parts x g f b h.0).1, closed_less f g b h.1)

-- ---- grants by place

abbrev dones : Grant → Grant
dones y = record y { standing = ideal.Done }

pub get_closed : (ys : List ℕ) (n i : ℕ) (gs : List Grant) (y : Grant) → slice_get gs i ≡ Some y → slice_get (closed_from n ys gs) i ≡ Some (closed_if (is_in ys (n + i)) y)
get_closed ys n i [] y e = absurd (none y e)
  where
    none : (y : Grant) → None ≡ Some y → ⊥
    none y e = cc
get_closed ys n zero (x ∷ gs) y e =
    let q : x ≡ y = cc in
    let z : n ≡ n + 0 = omega arith in
    (λ k. Some (closed_if (is_in ys (z k)) (q k)))
get_closed ys n (suc i) (x ∷ gs) y e =
    let z : n + 1 + i ≡ n + suc i = omega arith in
    get_closed ys (n + 1) i gs y e ∙ (λ k. Some (closed_if (is_in ys (z k)) y))

done_place : (xs ys : List ℕ) (g n i : ℕ) (gs : List Grant) (y : Grant) → ((k : ℕ) → is_in ys k ≡ (g == k) || is_in xs k) → is_in xs g ≡ false → g ≡ n + i → slice_get gs i ≡ Some y
    → closed_from n xs (set gs i (dones y)) ≡ set (closed_from n ys gs) i (dones y)
done_place xs ys g n i [] y e off' here' found = absurd (none y found)
  where
    none : (y : Grant) → None ≡ Some y → ⊥
    none y h = cc
done_place xs ys g n zero (x ∷ gs) y e off' here' found =
    let off : is_in xs n ≡ false = ap (is_in xs) (let z : n ≡ g = omega arith in z) ∙ off' in
    let rest = closed_later xs ys g (n + 1) gs e (omega arith) in
    λ k. closed_if (off k) (dones y) ∷ sym rest k
done_place xs ys g n (suc i) (x ∷ gs) y e off' here' found =
    let other : is_in ys n ≡ is_in xs n = e n ∙ ap (λ b. b || is_in xs n) (let d : (g == n) ≡ false = grind (arith, nat_tests, here') in d) in
    let rest = done_place xs ys g (n + 1) i gs y e off' (omega arith) found in
    λ k. closed_if (sym other k) x ∷ rest k

pub get_other : (gs : List Grant) (i j : ℕ) (y : Grant) → (i == j) ≡ false → slice_get (set gs i y) j ≡ slice_get gs j
get_other [] i j y e = refl
get_other (x ∷ gs) zero zero y e = absurd (cc)
get_other (x ∷ gs) zero (suc j) y e = refl
get_other (x ∷ gs) (suc i) zero y e = refl
get_other (x ∷ gs) (suc i) (suc j) y e = get_other gs i j y (grind (arith, nat_tests, e))

pub each_set : (P : Grant → Type 0) (gs : List Grant) (i : ℕ) (x y : Grant) → slice_get gs i ≡ Some x → (P x → P y) → Each P gs → Each P (set gs i y)
each_set P [] i x y e f k = tt
each_set P (z ∷ gs) zero x y e f k = let q : z ≡ x = cc in (f (subst P q k.0), k.1)
each_set P (z ∷ gs) (suc i) x y e f k = (k.0, each_set P gs i x y e f k.1)

module _ (h : Site) (m : Machine) (from : ℕ) (hf : from < 16) (sound : MachineStructure h m) (g : ℕ) (qs : List Parcel) (front : link_at from 0 m ≡ Closed g ∷ qs) where
  zero_low : 0 < 16
  zero_low = omega arith

  in_links : 16 * from + 0 < length m.links
  in_links = is_link m.links from 0 qs hf zero_low sound.links

  abbrev left : Machine
  left = with_link from 0 qs m

  closes : Inserts g (all_closed left) (all_closed m)
  closes = pop_one closed_in m.links (16 * from + 0) (Closed g) qs g in_links front refl

  is_there : is_in (all_closed m) g ≡ true
  is_there = in_inserts g g (all_closed left) (all_closed m) closes ∙ (let z : ((g == g) || is_in (all_closed left) g) ≡ true = grind (arith, nat_tests) in z)

  no_more : is_in (all_closed left) g ≡ false
  no_more = ap (λ l. is_in l g) closes.without ∙ closed_middle closes.front g closes.back (subst DistinctClosed closes.whole sound.closed)

  left_apart : DistinctClosed (all_closed left)
  left_apart = subst DistinctClosed (sym closes.without) (closed_less closes.front g closes.back (subst DistinctClosed closes.whole sound.closed))

  shut_is : (o : Option Grant) → grant_in m.kernel.grants g ≡ o → CloseWasSent o → (y : Grant) × (grant_in m.kernel.grants g ≡ Some y) × (is_under_close y ≡ true)
  shut_is None e k = absurd k
  shut_is (Some y) e k = (y, e, k)

  its : (y : Grant) × (grant_in m.kernel.grants g ≡ Some y) × (is_under_close y ≡ true)
  its = shut_is (grant_in m.kernel.grants g) refl (sound.shut g is_there)

  place : (i : ℕ) × (g ≡ suc i) × (slice_get m.kernel.grants i ≡ Some its.0)
  place = numbered m.kernel.grants g its.0 its.1

  abbrev grants' : List Grant
  grants' = change_grant m.kernel.grants g (λ y. record y { standing = ideal.Done })

  grants_are : grants' ≡ set m.kernel.grants place.0 (dones its.0)
  grants_are =
      ap (set_some m.kernel.grants g dones) its.1
      ∙ ap (λ i. set m.kernel.grants i (dones its.0)) (let e = place.1 in let z : g - 1 ≡ place.0 = omega arith in z)

  abbrev pub finished : Machine
  finished = record (with_link from 0 qs m) { kernel = record m.kernel { grants = change_grant m.kernel.grants g (λ y. record y { standing = ideal.Done }) } }

  contexts_same : all_contexts finished ≡ all_contexts m
  contexts_same = ap (λ l. flat_map tile_contexts m.tiles ++ (flat_map entry_contexts m.kernel.seats ++ l)) (pop_none contexts_in m.links (16 * from + 0) (Closed g) qs in_links front refl)

  packets_same : all_packets finished ≡ all_packets m
  packets_same = ap (λ l. flat_map held_by m.kernel.seats ++ l) (pop_none packets_in m.links (16 * from + 0) (Closed g) qs in_links front refl)

  -- ---- the ideal step

  closed_there : grant_in (ideal_of m).grants g ≡ Some (closed_if true its.0)
  closed_there =
      let e = place.1 in
      ap (grant_in (ideal_of m).grants) e
      ∙ numbered_back (ideal_of m).grants place.0
      ∙ get_closed (all_closed m) 1 place.0 m.kernel.grants its.0 place.2
      ∙ ap (λ b. Some (closed_if b its.0)) (ap (is_in (all_closed m)) (let z : 1 + place.0 ≡ g = omega arith in z) ∙ is_there)

  abbrev next : State
  next = record (ideal_of m) { grants = change_grant (ideal_of m).grants g (λ y. record y { standing = ideal.Done }) }

  grants_next : closed_from 1 (all_closed left) grants' ≡ next.grants
  grants_next =
      let e = place.1 in
      ap (closed_from 1 (all_closed left)) grants_are
      ∙ done_place (all_closed left) (all_closed m) g 1 place.0 m.kernel.grants its.0 (λ k. in_inserts g k (all_closed left) (all_closed m) closes) no_more (let z : g ≡ 1 + place.0 = omega arith in z) place.2
      ∙ ap (λ i. set (ideal_of m).grants i (dones its.0)) (let z : place.0 ≡ g - 1 = omega arith in z)
      ∙ sym (ap (set_some (ideal_of m).grants g dones) closed_there)

  state_next : ideal_of finished ≡ next
  state_next =
      λ k. record {
        memory = m.memory;
        contexts = sorted_by_act (contexts_same k);
        flights = sorted_by_name (packets_same k);
        kernel_next = m.kernel.next;
        grants = grants_next k;
      }

  ran : ideal_run (Step.Done g ∷ []) (ideal_of m) ≡ Some (record { words = Finishes g its.0.is_root ∷ []; state = next })
  ran = ap (λ o. on_from (ideal_run []) (done_in (ideal_of m) g o)) closed_there

  -- ---- it is as sound

  walks' : (w : ℕ) → 2 ≤ w → w < 16 → CurrentAlongLink (current_act (tile_at w m)) (link_at 0 w left) (placed_on h w m.kernel)
  walks' w low high =
      links_set m.links from 0 qs hf zero_low sound.links (λ x y l. 2 ≤ y → CurrentAlongLink (current_act (tile_at y m)) l (placed_on h y m.kernel)) 0 w high (λ z. sound.seated.walks w low high)
      (λ e d z. absurd (omega arith)) low

  shut' : (n : ℕ) → is_in (all_closed left) n ≡ true → CloseWasSent (grant_in grants' n)
  shut' n k = by_test (g == n) refl
    where
      still : is_in (all_closed m) n ≡ true
      still = in_inserts g n (all_closed left) (all_closed m) closes ∙ (let e = k in grind (arith, e))

      same : (n : ℕ) → (g == n) ≡ false → grant_in grants' n ≡ grant_in m.kernel.grants n
      same zero d = grind (arith, nat_tests)
      same (suc j) d =
          ap (λ gs. grant_in gs (suc j)) grants_are ∙ numbered_back (set m.kernel.grants place.0 (dones its.0)) j
          ∙ get_other m.kernel.grants place.0 j (dones its.0) (let e = place.1 in grind (arith, nat_tests, e, d)) ∙ sym (numbered_back m.kernel.grants j)

      by_test : (b : Bool) → (g == n) ≡ b → CloseWasSent (grant_in grants' n)
      by_test false d = subst CloseWasSent (sym (same n d)) (sound.shut n still)
      by_test true d = absurd (let z : g ≡ n = grind (arith, nat_tests, d) in let w : is_in (all_closed left) n ≡ false = ap (is_in (all_closed left)) (sym z) ∙ no_more in cc)

  pub finished_sound : MachineStructure h finished
  finished_sound =
      record {
        setup = sound.setup;
        tiles = sound.tiles;
        links = pop_length m.links from 0 hf zero_low sound.links (Closed g) qs front;
        acts = subst DistinctActs (sym contexts_same) sound.acts;
        known = λ a e. subst (λ l. IsPresent (context_of a l)) (sym contexts_same) (sound.known a e);
        named = subst (Each (λ c. is_named_context h c ≡ true)) (sym contexts_same) sound.named;
        names = subst Distinct (sym packets_same) sound.names;
        housed = record { seats = sound.housed.seats; tiles = sound.housed.tiles; stays = sound.housed.stays; current = sound.housed.current };
        parcels = λ a b ha hb. each_map (ParcelOk h m.kernel m.tiles a b) (ParcelOk h finished.kernel m.tiles a b) (parcel_kernel h m.kernel finished.kernel m.tiles (λ c k. k) a b) (link_at a b left)
            (pop_each m.links from 0 hf zero_low sound.links (Closed g) qs front (ParcelOk h m.kernel m.tiles) sound.parcels a b ha hb);
        seated = record {
          seats = sound.seated.seats;
          filled = sound.seated.filled;
          leaving = sound.seated.leaving;
          departing = λ a. (let r = pop_leavings m.links from 0 hf zero_low sound.links (Closed g) qs front a in let z : saves_in_flight a left.links ≡ saves_in_flight a m.links = omega arith in z) ∙ sound.seated.departing a;
          walks = walks';
          orderly = pop_orderly m.links from 0 hf zero_low sound.links (Closed g) qs front sound.seated.orderly;
        };
        closed = left_apart;
        shut = shut';
        holders = subst (Each (λ x. is_home h (holder x.line) ≡ true)) (sym grants_are) (each_set (λ x. is_home h (holder x.line) ≡ true) m.kernel.grants place.0 its.0 (dones its.0) place.2 (λ k. k) sound.holders);
      }

  -- ---- the event

  said_done : (b : Bool) → said_or_nothing (said_of false (Finishes g b ∷ [])) ≡ Said.Done g (if b then Some g else None)
  said_done true = refl
  said_done false = refl

  places_next : placement_of h finished ≡ places_state.with_link from 0 (map link_token qs) (placement_of h m)
  places_next =
      let links : tokens (set m.links (16 * from + 0) qs) ≡ set (tokens m.links) (16 * from + 0) (map link_token qs) = map-set (λ xs. map link_token xs) m.links (16 * from + 0) qs in
      λ k. record (placement_of h m) { links = links k }

  -- a grant is done
  pub take_closed_refines : Refines h m (Event.Take 0 from) None (machine_step h m (Event.Take 0 from) None)
  take_closed_refines =
      let said = Said.Done g (if its.0.is_root then Some g else None) in
      let q = places_state.with_link from 0 (map link_token qs) (placement_of h m) in
      let step : machine_step h m (Event.Take 0 from) None ≡ Some (record { outcome = record { made = None; said = said; restore = None }; machine = finished }) =
      kernel_step h m from hf sound (Closed g) qs front
      ∙ ap (λ o. done_by 0 left (Some (of_kernel (take_closed m.kernel g o)))) its.1
      ∙ ap (λ b. done_by 0 left (Some (of_kernel (cond b (done_grant g its.0 m.kernel) (dropped_result m.kernel))))) its.2 in
      subst (Refines h m (Event.Take 0 from) None) (sym step) (
        ap (λ l. places_take.take (ideal_of m) (placement_of h m) 0 from l) (link_is h m from hf sound (Closed g) qs front)
            ∙ ap (places_take.done_by (ideal_of m) q) ran
            ∙ ap (λ z. places_landing.step_outcome z next q) (said_done its.0.is_root)
            ∙ (λ k. places_landing.step_outcome said (sym state_next k) (sym places_next k)),
        finished_sound,
      )
