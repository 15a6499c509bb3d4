-- The order of a revoke.
use Rattle.std.proofs.Common.{◌≡◌, ℕ, zero, suc, ◌+◌, ◌-◌, Bool, true, false, cond, List, [], ◌∷◌, ◌++◌, Some, None, refl, sym, subst, ◌∙◌, ap, arith, set, Option}
use Rattle.std.specs.Prelude.{if◌then◌else◌, ◌==◌, not, ◌&&◌, ◌||◌, is_some, slice_get}
use Rattle.std.proofs.lemmas.Bool.Decides.{nat_tests}
use Rattle.m3_base.specs.declared.order.Order.{Order}
use Rattle.m3_base.specs.declared.event.Event.{Event}
use Rattle.m3_base.specs.declared.event.Made.{Made}
use Rattle.m3_base.specs.declared.event.No.{No}
use Rattle.m3_base.specs.declared.event.Said.{Said}
use Rattle.m3_base.specs.Ideal.State.{Grant, State, grant_in, holder, is_done, is_live, parent_of}
use Rattle.m3_base.specs.Ideal.GrantRules.{set_some, revoke_refusal, marks_under, is_marked, to_closing, closing_where, with_root_closing, after_revoke, to_root}
use Rattle.m3_base.specs.Ideal.State as ideal
use Rattle.m3_base.specs.Ideal.Flights.{flight}
use Rattle.m3_base.specs.Ideal.GrantRules.{kernel_id as kernel_id'}
use Rattle.m3_base.specs.Ideal.Step.{ideal_run, on_from, revoke_in}
use Rattle.m3_base.specs.Journal.Entry.{ran_to}
use Rattle.m3_base.specs.Placement.Order as places_order
use Rattle.m3_base.specs.Placement.Landing as places_landing
use Rattle.m3_base.specs.Placement.Routing as places_routing
use Rattle.m3_base.specs.Placement.Step.{placement_step}
use Rattle.m3_base.specs.Lists.EachElement.{Each}
use Rattle.m3_model.specs.Config.Site.{Site}
use Rattle.m3_model.specs.Config.KnownActivities.{is_home}
use Rattle.m3_model.specs.Kernel.Step.{is_under_close, revoke_with}
use Rattle.m3_model.specs.Machine.{Machine, machine_step, done_by, of_kernel}
use Rattle.m3_model.specs.Abstraction.{all_closed, is_in, closed_if, closed_from, ideal_of, placement_of}
use Rattle.m3_model.specs.Invariant.Structure.{CloseWasSent, MachineStructure}
use Rattle.m3_model.specs.Refinement.{Refines}
use Rattle.m3_refine.proofs.events.take.RouteStep.{itself}
use Rattle.m3_refine.proofs.abstraction.ChangeGrants.{regranted_sound}
use Rattle.m3_refine.proofs.abstraction.ClosedGrants.{numbered}
use Rattle.m3_refine.proofs.events.take.KernelTakesClosed.{get_closed}
use Rattle.m3_base.proofs.GrantsByNumber.{grant_in-suc as numbered_back}

-- ---- marks and closed grants

marks_same : (xs : List ℕ) (g n k : ℕ) (marks : List Bool) (gs : List Grant) → marks_under g n marks (closed_from k xs gs) ≡ marks_under g n marks gs
marks_same xs g n k marks [] = refl
marks_same xs g n k marks (x ∷ gs) =
    ap (λ l. marks_under g (n + 1) (marks ++ ((n == g) || is_marked (parent_of l) marks) ∷ []) (closed_from (k + 1) xs gs)) (line_same (is_in xs k) x)
    ∙ marks_same xs g (n + 1) (k + 1) (marks ++ ((n == g) || is_marked (parent_of x.line) marks) ∷ []) gs
  where
    line_same : (b : Bool) (x : Grant) → (closed_if b x).line ≡ x.line
    line_same true x = refl
    line_same false x = refl

closing_one : (b c : Bool) (x : Grant) → closed_if c (to_closing b x) ≡ to_closing b (closed_if c x)
closing_one b false x = refl
closing_one true true x = by_live (is_live x.standing)
  where
    by_live : (d : Bool) → closed_if true (if d then record x { standing = ideal.Closing } else x) ≡ record x { standing = ideal.Closed }
    by_live true = refl
    by_live false = refl
closing_one false true x = refl

closing_same : (xs : List ℕ) (n : ℕ) (bs : List Bool) (gs : List Grant) → closed_from n xs (closing_where bs gs) ≡ closing_where bs (closed_from n xs gs)
closing_same xs n [] gs = refl
closing_same xs n (b ∷ bs) [] = refl
closing_same xs n (b ∷ bs) (x ∷ gs) = λ k. closing_one b (is_in xs n) x k ∷ closing_same xs (n + 1) bs gs k

roots_one : (b : Bool) (x : Grant) → closed_if b (to_root x) ≡ to_root (closed_if b x)
roots_one true x = refl
roots_one false x = refl

roots_place : (xs : List ℕ) (n i : ℕ) (gs : List Grant) (x : Grant) → slice_get gs i ≡ Some x → closed_from n xs (set gs i (to_root x)) ≡ set (closed_from n xs gs) i (to_root (closed_if (is_in xs (n + i)) x))
roots_place xs n i [] x e = refl
roots_place xs n zero (y ∷ gs) x e = λ k. (roots_one (is_in xs n) x ∙ ap (λ j. to_root (closed_if (is_in xs j) x)) (let z : n ≡ n + 0 = omega arith in z)) k ∷ closed_from (n + 1) xs gs
roots_place xs n (suc i) (y ∷ gs) x e =
    λ k. closed_if (is_in xs n) y ∷ (roots_place xs (n + 1) i gs x e ∙ ap (λ j. set (closed_from (n + 1) xs gs) i (to_root (closed_if (is_in xs j) x))) (let z : n + 1 + i ≡ n + suc i = omega arith in z)) k

pub get_none : (xs : List ℕ) (n i : ℕ) (gs : List Grant) → slice_get gs i ≡ None → slice_get (closed_from n xs gs) i ≡ None
get_none xs n i [] e = refl
get_none xs n zero (x ∷ gs) e = absurd (cc)
get_none xs n (suc i) (x ∷ gs) e = get_none xs (n + 1) i gs e

-- a grant of the ideal state, by the kernel's
at_place : (xs : List ℕ) (gs : List Grant) (i : ℕ) (o : Option Grant) → slice_get gs i ≡ o → slice_get (closed_from 1 xs gs) i ≡ (cond (is_some o) (slice_get (closed_from 1 xs gs) i) None)
at_place xs gs i None e = get_none xs 1 i gs e
at_place xs gs i (Some x) e = refl

rooted_same : (xs : List ℕ) (gs : List Grant) (g : ℕ) → closed_from 1 xs (with_root_closing gs g) ≡ with_root_closing (closed_from 1 xs gs) g
rooted_same xs gs zero = ap (λ o. closed_from 1 xs (set_some gs zero to_root o)) (zero_none gs) ∙ sym (ap (set_some (closed_from 1 xs gs) zero to_root) (zero_none (closed_from 1 xs gs)))
  where
    zero_none : (gs : List Grant) → grant_in gs zero ≡ None
    zero_none gs = grind (arith, nat_tests)
rooted_same xs gs (suc i) = by_grant (slice_get gs i) refl
  where
    less : suc i - 1 ≡ i
    less = omega arith

    by_grant : (o : Option Grant) → slice_get gs i ≡ o → closed_from 1 xs (with_root_closing gs (suc i)) ≡ with_root_closing (closed_from 1 xs gs) (suc i)
    by_grant None e =
        ap (λ o. closed_from 1 xs (set_some gs (suc i) to_root o)) (numbered_back gs i ∙ e)
        ∙ sym (ap (set_some (closed_from 1 xs gs) (suc i) to_root) (numbered_back (closed_from 1 xs gs) i ∙ get_none xs 1 i gs e))
    by_grant (Some x) e =
        ap (λ o. closed_from 1 xs (set_some gs (suc i) to_root o)) (numbered_back gs i ∙ e)
        ∙ ap (λ j. closed_from 1 xs (set gs j (to_root x))) less
        ∙ roots_place xs 1 i gs x e
        ∙ ap (λ j. set (closed_from 1 xs gs) j (to_root (closed_if (is_in xs (1 + i)) x))) (sym less)
        ∙ sym (ap (set_some (closed_from 1 xs gs) (suc i) to_root) (numbered_back (closed_from 1 xs gs) i ∙ get_closed xs 1 i gs x e))

revoked_same : (xs : List ℕ) (gs : List Grant) (g : ℕ) → closed_from 1 xs (after_revoke gs g) ≡ after_revoke (closed_from 1 xs gs) g
revoked_same xs gs g =
    rooted_same xs (closing_where (marks_under g 1 [] gs) gs) g
    ∙ ap (λ l. with_root_closing l g) (closing_same xs 1 (marks_under g 1 [] gs) gs ∙ ap (λ bs. closing_where bs (closed_from 1 xs gs)) (sym (marks_same xs g 1 1 [] gs)))

-- ---- what a revoke keeps of each grant

pub record Keeps (x y : Grant) : Type 0 where
  pub line : y.line ≡ x.line
  pub sent : y.close_sent ≡ x.close_sent
  pub done : is_done y.standing ≡ is_done x.standing

abbrev AreKept : List Grant → List Grant → Type 0
AreKept [] [] = Unit {0}
AreKept (x ∷ xs) (y ∷ ys) = Keeps x y × AreKept xs ys
AreKept [] (y ∷ ys) = ⊥
AreKept (x ∷ xs) [] = ⊥

kept_itself : (gs : List Grant) → AreKept gs gs
kept_itself [] = tt
kept_itself (x ∷ gs) = (record { line = refl; sent = refl; done = refl }, kept_itself gs)

kept_closing : (bs : List Bool) (gs : List Grant) → AreKept gs (closing_where bs gs)
kept_closing [] gs = kept_itself gs
kept_closing (b ∷ bs) [] = tt
kept_closing (b ∷ bs) (x ∷ gs) = (by_test b (is_live x.standing) refl, kept_closing bs gs)
  where
    live_undone : is_live x.standing ≡ true → false ≡ is_done x.standing
    live_undone e = grind (arith, e)

    by_test : (b d : Bool) → is_live x.standing ≡ d → Keeps x (if b && d then record x { standing = ideal.Closing } else x)
    by_test true true e = record { line = refl; sent = refl; done = live_undone e }
    by_test true false e = record { line = refl; sent = refl; done = refl }
    by_test false d e = record { line = refl; sent = refl; done = refl }

kept_set : (xs ys : List Grant) (i : ℕ) (y : Grant) → AreKept xs ys → slice_get ys i ≡ Some y → AreKept xs (set ys i (to_root y))
kept_set [] [] i y k e = tt
kept_set (x ∷ xs) (z ∷ ys) zero y k e = let q : z ≡ y = cc in let f = subst (Keeps x) q k.0 in (record { line = f.line; sent = f.sent; done = f.done }, k.1)
kept_set (x ∷ xs) (z ∷ ys) (suc i) y k e = (k.0, kept_set xs ys i y k.1 e)
kept_set [] (y ∷ ys) i z k e = absurd k
kept_set (x ∷ xs) [] i z k e = absurd k

kept_rooted : (xs ys : List Grant) (g : ℕ) → AreKept xs ys → AreKept xs (with_root_closing ys g)
kept_rooted xs ys g k = by_grant (grant_in ys g) refl
  where
    by_grant : (o : Option Grant) → grant_in ys g ≡ o → AreKept xs (set_some ys g to_root o)
    by_grant None e = k
    by_grant (Some y) e =
        let n = numbered ys g y e in
        subst (λ i. AreKept xs (set ys i (to_root y))) (let z = n.1 in let w : n.0 ≡ g - 1 = omega arith in w) (kept_set xs ys n.0 y k n.2)

kept_each : (h : Site) (xs ys : List Grant) → AreKept xs ys → Each (λ x. is_home h (holder x.line) ≡ true) xs → Each (λ x. is_home h (holder x.line) ≡ true) ys
kept_each h [] [] k e = tt
kept_each h (x ∷ xs) (y ∷ ys) k e = (ap (λ l. is_home h (holder l)) k.0.line ∙ e.0, kept_each h xs ys k.1 e.1)
kept_each h [] (y ∷ ys) k e = absurd k
kept_each h (x ∷ xs) [] k e = absurd k

kept_get : (xs ys : List Grant) (i : ℕ) → AreKept xs ys → CloseWasSent (slice_get xs i) → CloseWasSent (slice_get ys i)
kept_get [] [] i k s = s
kept_get (x ∷ xs) (y ∷ ys) zero k s = (λ j. k.0.sent j && not (k.0.done j)) ∙ s
kept_get (x ∷ xs) (y ∷ ys) (suc i) k s = kept_get xs ys i k.1 s
kept_get [] (y ∷ ys) i k s = absurd k
kept_get (x ∷ xs) [] i k s = absurd k

-- ---- the order

module _ (h : Site) (m : Machine) (sound : MachineStructure h m) (g : ℕ) (made : Option Made)
    -- a grant whose Closed is on its way isn't live
    (closing : (n : ℕ) (x : Grant) → is_in (all_closed m) n ≡ true → grant_in m.kernel.grants n ≡ Some x → is_live x.standing ≡ false) where
  abbrev G : List Grant
  G = m.kernel.grants

  abbrev e : Event
  e = Event.Order (Order.Revoke g)

  kept : AreKept G (after_revoke G g)
  kept = kept_rooted G (closing_where (marks_under g 1 [] G) G) g (kept_closing (marks_under g 1 [] G) G)

  refusal_by : (b : Bool) (x : Grant) → (b ≡ true → (is_under_close x ≡ true) × (is_live x.standing ≡ false)) → revoke_refusal (Some (closed_if b x)) ≡ revoke_refusal (Some x)
  refusal_by false x f = refl
  refusal_by true x f = let k = (f refl).0 in let l = (f refl).1 in grind (arith, k, l)

  shut_some : (x : Grant) (o : Option Grant) → o ≡ Some x → CloseWasSent o → is_under_close x ≡ true
  shut_some x None q s = absurd s
  shut_some x (Some y) q s = let r : y ≡ x = cc in subst (λ y. is_under_close y ≡ true) r s

  refusal_at : (n : ℕ) → g ≡ n → revoke_refusal (grant_in (ideal_of m).grants n) ≡ revoke_refusal (grant_in G n)
  refusal_at zero q = ap revoke_refusal (zero_none (ideal_of m).grants ∙ sym (zero_none G))
    where
      zero_none : (gs : List Grant) → grant_in gs zero ≡ None
      zero_none gs = grind (arith, nat_tests)
  refusal_at (suc i) q = by_grant (slice_get G i) refl
    where
      by_grant : (o : Option Grant) → slice_get G i ≡ o → revoke_refusal (grant_in (ideal_of m).grants (suc i)) ≡ revoke_refusal (grant_in G (suc i))
      by_grant None d = ap revoke_refusal (numbered_back (ideal_of m).grants i ∙ get_none (all_closed m) 1 i G d) ∙ sym (ap revoke_refusal (numbered_back G i ∙ d))
      by_grant (Some x) d =
          let there : grant_in G (suc i) ≡ Some x = numbered_back G i ∙ d in
          let z : 1 + i ≡ suc i = omega arith in
          ap revoke_refusal (numbered_back (ideal_of m).grants i ∙ get_closed (all_closed m) 1 i G x d)
          ∙ refusal_by (is_in (all_closed m) (1 + i)) x (λ k. let w : is_in (all_closed m) (suc i) ≡ true = ap (is_in (all_closed m)) (sym z) ∙ k in (shut_some x (grant_in G (suc i)) there (sound.shut (suc i) w), closing (suc i) x w there))
          ∙ sym (ap revoke_refusal there)

  refusal : revoke_refusal (grant_in (ideal_of m).grants g) ≡ revoke_refusal (grant_in G g)
  refusal = refusal_at g refl

  abbrev n : Machine
  n = record m { kernel = record m.kernel { grants = after_revoke m.kernel.grants g } }

  shut' : (k : ℕ) → is_in (all_closed m) k ≡ true → CloseWasSent (grant_in (after_revoke G g) k)
  shut' zero i = absurd (zero_shut (grant_in G zero) (grind (arith, nat_tests)) (sound.shut zero i))
    where
      zero_shut : (o : Option Grant) → o ≡ None → CloseWasSent o → ⊥
      zero_shut None q s = s
      zero_shut (Some y) q s = cc
  shut' (suc k) i = subst CloseWasSent (sym (numbered_back (after_revoke G g) k)) (kept_get G (after_revoke G g) k kept (subst CloseWasSent (numbered_back G k) (sound.shut (suc k) i)))

  revoke_sound : MachineStructure h n
  revoke_sound = regranted_sound h m sound m.kernel.next (after_revoke G g) shut' (kept_each h G (after_revoke G g) kept sound.holders)

  state_next : ideal_of n ≡ record (ideal_of m) { grants = after_revoke (ideal_of m).grants g }
  state_next = (λ k. record (ideal_of m) { grants = revoked_same (all_closed m) G g k })

  place_by : (o : Option No) → revoke_refusal (grant_in G g) ≡ o
      → placement_step (ideal_of m) (placement_of h m) e made ≡ places_order.order_by (ideal_of m) (places_order.route_new (ideal_of m) (ran_to (on_from (ideal_run []) (revoke_in (ideal_of m) g o)) (ideal_of m)) (placement_of h m)) (on_from (ideal_run []) (revoke_in (ideal_of m) g o))
  place_by o k = ap (λ z. places_order.order_by (ideal_of m) (places_order.route_new (ideal_of m) (ran_to (on_from (ideal_run []) (revoke_in (ideal_of m) g z)) (ideal_of m)) (placement_of h m)) (on_from (ideal_run []) (revoke_in (ideal_of m) g z))) (refusal ∙ k)

  revoke_by : (o : Option No) → revoke_refusal (grant_in G g) ≡ o → Refines h m e made (machine_step h m e made)
  revoke_by (Some why) k =
      subst (Refines h m e made) (sym (ap (λ o. done_by 0 m (Some (of_kernel (revoke_with m.kernel g o)))) k))
      (place_by (Some why) k ∙ ap (λ b. places_landing.step_outcome (Said.No why) (ideal_of m) (if b then record { held = false; places = placement_of h m } else places_routing.route (kernel_id' (ideal_of m)) (places_routing.actor_for (places_routing.target_of (flight (kernel_id' (ideal_of m)) (ideal_of m).flights)) (placement_of h m)) (placement_of h m)).places) (itself m.kernel.next), sound)
  revoke_by None k =
      let next : State = record (ideal_of m) { grants = after_revoke (ideal_of m).grants g } in
      subst (Refines h m e made) (sym (ap (λ o. done_by 0 m (Some (of_kernel (revoke_with m.kernel g o)))) k)) (
        place_by None k
            ∙ ap (λ b. places_landing.step_outcome (Said.Revoking g) next (if b then record { held = false; places = placement_of h m } else places_routing.route (kernel_id' (ideal_of m)) (places_routing.actor_for (places_routing.target_of (flight (kernel_id' (ideal_of m)) (ideal_of m).flights)) (placement_of h m)) (placement_of h m)).places) (itself m.kernel.next)
            ∙ (λ i. places_landing.step_outcome (Said.Revoking g) (sym state_next i) (placement_of h m)),
        revoke_sound,
      )

  -- the order of a revoke, made or refused
  pub revoke_refines : Refines h m e made (machine_step h m e made)
  revoke_refines = revoke_by (revoke_refusal (grant_in G g)) refl
