-- The kernel sends the Close of a grant that is due.
use Rattle.std.proofs.Common.{◌≡◌, ℕ, zero, suc, ◌+◌, ◌-◌, Bool, true, false, cond, List, [], ◌∷◌, Some, None, refl, sym, subst, ◌∙◌, ap, arith, set, Option}
use Rattle.std.specs.Prelude.{if◌then◌else◌, ◌==◌, not, ◌&&◌, slice_get}
use Rattle.std.specs.List.{list_any}
use Rattle.std.proofs.lemmas.Bool.Decides.{nat_tests}
use Rattle.m3_base.specs.declared.packet.Packet.{Packet}
use Rattle.m3_base.specs.declared.event.Event.{Event}
use Rattle.m3_base.specs.declared.event.Made.{Made}
use Rattle.m3_base.specs.declared.event.Said.{Said}
use Rattle.m3_base.specs.declared.step.Step.{Step}
use Rattle.m3_base.specs.Ideal.Flights.{flight, new_flight}
use Rattle.m3_base.specs.Ideal.State.{Grant, State, grant_in, holder, holder_ep}
use Rattle.m3_base.specs.Ideal.GrantRules.{change_grant, set_some, may_close, is_open_child, is_closing_grant, close_sent, to_sent}
use Rattle.m3_base.specs.Ideal.Step.{Sends_close, ideal_run, on_from, send_close_in, step_to}
use Rattle.m3_base.specs.Journal.Entry.{ran_to}
use Rattle.m3_base.specs.Placement.Routing as places_routing
use Rattle.m3_base.specs.Placement.Landing as places_landing
use Rattle.m3_base.specs.Placement.Order as places_order
use Rattle.m3_base.specs.Placement.Routing.{target_of}
use Rattle.m3_base.specs.Placement.Order.{least_closing}
use Rattle.m3_base.proofs.FlightOrder.{find-new}
use Rattle.m3_base.specs.Lists.EachElement.{Each}
use Rattle.m3_model.specs.Config.Site.{Site}
use Rattle.m3_model.specs.Config.KnownActivities.{is_home, is_named}
use Rattle.m3_model.specs.Kernel.Step.{is_under_close, route, Routed, own_packet_out, kernel_id, close_of, close_least}
use Rattle.m3_model.specs.Machine.{Machine, machine_step, done_by, of_kernel}
use Rattle.m3_model.specs.Abstraction.{all_packets, all_closed, is_in, closed_if, closed_from, ideal_of, placement_of}
use Rattle.m3_model.specs.Invariant.Structure.{CloseWasSent, MachineStructure}
use Rattle.m3_model.specs.Invariant.IdealFacts.{IdealFacts}
use Rattle.m3_model.specs.Refinement.{Refines}
use Rattle.m3_refine.proofs.abstraction.ChangeGrants.{regranted_sound}
use Rattle.m3_refine.proofs.abstraction.ClosingGrants.{AllShut, shut_at, all_shut, open_child_reads, any_same}
use Rattle.m3_refine.proofs.events.command.CommandRefines.{absent_back}
use Rattle.m3_refine.proofs.events.order.DueGrants.{least_found}
use Rattle.m3_refine.proofs.events.take.RouteRefines.{KnownActivity, known_activity, Routes, route_is, routed_by}
use Rattle.m3_refine.proofs.events.take.KernelTakesClosed.{get_other, each_set}
use Rattle.m3_refine.proofs.abstraction.OpeningLines.{each_get}
use Rattle.m3_base.proofs.GrantsByNumber.{grant_in-suc as numbered_back}

-- ---- whose Closed is on its way isn't due

child_same : (g : ℕ) (xs : List ℕ) (n : ℕ) (gs : List Grant) → AllShut xs n gs → list_any (is_open_child g) (closed_from n xs gs) ≡ list_any (is_open_child g) gs
child_same g xs = any_same (is_open_child g) (open_child_reads g) xs

due_same : (S G : List Grant) (n : ℕ) (b : Bool) (x : Grant) → (b ≡ true → is_under_close x ≡ true) → list_any (is_open_child n) S ≡ list_any (is_open_child n) G → may_close S n (Some (closed_if b x)) ≡ may_close G n (Some x)
due_same S G n false x f e = ap (λ d. is_closing_grant x.standing && (not x.close_sent && not d)) e
due_same S G n true x f e = let k = f refl in grind (arith, k)

least_same : (xs : List ℕ) (S G : List Grant) → ((n : ℕ) → list_any (is_open_child n) S ≡ list_any (is_open_child n) G) → (n : ℕ) (gs : List Grant) → AllShut xs n gs → least_closing S n (closed_from n xs gs) ≡ least_closing G n gs
least_same xs S G e n [] s = refl
least_same xs S G e n (x ∷ gs) s =
    let r = least_same xs S G e (n + 1) gs s.1 in
    let d = due_same S G n (is_in xs n) x s.0 (e n) in
    (λ k. cond (d k) (Some n) (r k))

-- the same grant is due in the kernel and in the ideal state
pub least : (h : Site) (m : Machine) → MachineStructure h m → least_closing (ideal_of m).grants 1 (ideal_of m).grants ≡ least_closing m.kernel.grants 1 m.kernel.grants
least h m sound =
    let xs = all_closed m in
    let gs = m.kernel.grants in
    let shut = all_shut h m sound in
    least_same xs (ideal_of m).grants gs (λ n. child_same n xs 1 gs shut) 1 gs shut

sent_place : (xs : List ℕ) (n i : ℕ) (gs : List Grant) (x : Grant) → slice_get gs i ≡ Some x → is_in xs (n + i) ≡ false
    → (closed_from n xs (set gs i (to_sent x)) ≡ set (closed_from n xs gs) i (to_sent x)) × (slice_get (closed_from n xs gs) i ≡ Some x)
sent_place xs n i [] x e k = absurd (none x e)
  where
    none : (x : Grant) → None ≡ Some x → ⊥
    none x e = cc
sent_place xs n zero (y ∷ gs) x e k =
    let off : is_in xs n ≡ false = ap (is_in xs) (let z : n ≡ n + 0 = omega arith in z) ∙ k in
    let q : y ≡ x = cc in
    ((λ j. closed_if (off j) (to_sent x) ∷ closed_from (n + 1) xs gs), ap (λ b. Some (closed_if b y)) off ∙ ap (λ z. Some z) q)
sent_place xs n (suc i) (y ∷ gs) x e k =
    let r = sent_place xs (n + 1) i gs x e (ap (is_in xs) (let z : n + 1 + i ≡ n + suc i = omega arith in z) ∙ k) in
    ((λ j. closed_if (is_in xs n) y ∷ r.0 j), r.1)

module _ (h : Site) (m : Machine) (sound : MachineStructure h m) (hyp : IdealFacts m) (made : Option Made) where
  abbrev G : List Grant
  G = m.kernel.grants

  abbrev X : List ℕ
  X = all_closed m

  module _ (g : ℕ) (due : least_closing G 1 G ≡ Some g) where
    f : (i : ℕ) × (x : Grant) × (g ≡ 1 + i) × (slice_get G i ≡ Some x) × (may_close G g (Some x) ≡ true)
    f = least_found G 1 G g due

    i : ℕ
    i = f.0

    unsent : f.1.close_sent ≡ false
    unsent = let k = f.4 in grind (arith, k)

    not_in : is_in X (1 + f.0) ≡ false
    not_in = by_test (is_in X (1 + f.0)) refl
      where
        by_test : (b : Bool) → is_in X (1 + f.0) ≡ b → b ≡ false
        by_test false e = refl
        by_test true e = absurd (let k = shut_at h m sound f.0 f.1 f.3 e in let u = unsent in let z : is_under_close f.1 ≡ false = grind (arith, u) in cc)

    in_kernel : grant_in G g ≡ Some f.1
    in_kernel = ap (grant_in G) (let e = f.2 in let z : g ≡ suc f.0 = omega arith in z) ∙ numbered_back G f.0 ∙ f.3

    both : (closed_from 1 X (set G f.0 (to_sent f.1)) ≡ set (ideal_of m).grants f.0 (to_sent f.1)) × (slice_get (ideal_of m).grants f.0 ≡ Some f.1)
    both = sent_place X 1 f.0 G f.1 f.3 not_in

    in_ideal : grant_in (ideal_of m).grants g ≡ Some f.1
    in_ideal = ap (grant_in (ideal_of m).grants) (let e = f.2 in let z : g ≡ suc f.0 = omega arith in z) ∙ numbered_back (ideal_of m).grants f.0 ∙ both.1

    before : g - 1 ≡ f.0
    before = let e = f.2 in omega arith

    grants_kernel : change_grant G g (λ y. record y { close_sent = true }) ≡ set G f.0 (to_sent f.1)
    grants_kernel = ap (set_some G g to_sent) in_kernel ∙ ap (λ j. set G j (to_sent f.1)) before

    grants_ideal : change_grant (ideal_of m).grants g (λ y. record y { close_sent = true }) ≡ set (ideal_of m).grants f.0 (to_sent f.1)
    grants_ideal = ap (set_some (ideal_of m).grants g to_sent) in_ideal ∙ ap (λ j. set (ideal_of m).grants j (to_sent f.1)) before

    abbrev m1 : Machine
    m1 = record m { kernel = record m.kernel { next = m.kernel.next + 1; grants = change_grant m.kernel.grants g (λ y. record y { close_sent = true }) } }

    abbrev p : Packet
    p = Packet.Close (kernel_id m.kernel) (holder f.1.line) (holder_ep f.1.line) g

    holder_home : is_home h (holder f.1.line) ≡ true
    holder_home = each_get (λ x. is_home h (holder x.line) ≡ true) G f.0 f.1 sound.holders f.3

    state1 : ideal_of m1 ≡ record (ideal_of m) { kernel_next = m.kernel.next + 1; grants = change_grant (ideal_of m).grants g (λ y. record y { close_sent = true }) }
    state1 = (λ k. record (ideal_of m) { kernel_next = m.kernel.next + 1; grants = (ap (closed_from 1 X) grants_kernel ∙ both.0 ∙ sym grants_ideal) k })

    shut1 : (n : ℕ) → is_in X n ≡ true → CloseWasSent (grant_in m1.kernel.grants n)
    shut1 zero k = absurd (let s = sound.shut zero k in zero_none (grant_in G zero) (grind (arith, nat_tests)) s)
      where
        zero_none : (o : Option Grant) → o ≡ None → CloseWasSent o → ⊥
        zero_none None e s = s
        zero_none (Some y) e s = cc
    shut1 (suc n) k =
        let d : (f.0 == n) ≡ false = other (f.0 == n) refl in
        subst CloseWasSent (sym (ap (λ gs. grant_in gs (suc n)) grants_kernel ∙ numbered_back (set G f.0 (to_sent f.1)) n ∙ get_other G f.0 n (to_sent f.1) d ∙ sym (numbered_back G n))) (sound.shut (suc n) k)
      where
        other : (b : Bool) → (f.0 == n) ≡ b → b ≡ false
        other false e = refl
        other true e = absurd (let q : 1 + f.0 ≡ suc n = grind (arith, nat_tests, e) in let z : is_in X (suc n) ≡ false = ap (is_in X) (sym q) ∙ not_in in cc)

    sound1 : MachineStructure h m1
    sound1 =
        regranted_sound h m sound (m.kernel.next + 1) (change_grant m.kernel.grants g (λ y. record y { close_sent = true })) shut1
        (subst (Each (λ x. is_home h (holder x.line) ≡ true)) (sym grants_kernel) (each_set (λ x. is_home h (holder x.line) ≡ true) G f.0 f.1 (to_sent f.1) f.3 (λ k. k) sound.holders))

    named : is_named h p ≡ true
    named = grind (arith, holder_home)

    absent : flight (kernel_id m.kernel) (all_packets m1) ≡ None
    absent = absent_back (kernel_id m.kernel) (all_packets m) hyp.fresh_kernel

    its : KnownActivity h m1 (holder f.1.line)
    its = known_activity h m1 (holder f.1.line) sound1 holder_home

    r : (d : Routed) × (route h p m1.kernel ≡ Some d) × Routes h m1 sound1 p (holder f.1.line) refl named absent its (routed_by h m1 sound1 p (holder f.1.line) refl named absent its d) d.held
    r = route_is h m1 sound1 p (holder f.1.line) refl named absent its

    abbrev n : Machine
    n = routed_by h m1 sound1 p (holder f.1.line) refl named absent its r.0

    abbrev said : Bool → Said
    said held = Said.CloseSent g (kernel_id m.kernel) held

    step : machine_step h m Event.Close made ≡ Some (record { outcome = record { made = None; said = said r.0.held; restore = None }; machine = n })
    step =
        ap (λ o. done_by 0 m (Some (of_kernel (close_least h m.kernel o)))) due
        ∙ ap (λ o. done_by 0 m (Some (of_kernel (close_of h m.kernel g o)))) in_kernel
        ∙ ap (λ o. done_by 0 m (Some (of_kernel (own_packet_out m.kernel said o)))) r.1

    may : may_close (ideal_of m).grants g (Some f.1) ≡ true
    may = due_same (ideal_of m).grants G g false f.1 (λ e. absurd (cc)) (child_same g X 1 G (all_shut h m sound)) ∙ f.4

    abbrev next : State
    next = close_sent (ideal_of m) g f.1

    ran : ideal_run (Step.Close g ∷ []) (ideal_of m) ≡ Some (record { words = Sends_close g (kernel_id m.kernel) ∷ []; state = next })
    ran =
        ap (λ o. on_from (ideal_run []) (send_close_in (ideal_of m) g o)) in_ideal
        ∙ ap (λ b. on_from (ideal_run []) (cond b (step_to (Sends_close g (kernel_id m.kernel)) next) None)) may

    next_number : (m.kernel.next + 1 == m.kernel.next) ≡ false
    next_number = grind (arith, nat_tests)

    flies : flight (kernel_id m.kernel) next.flights ≡ Some p
    flies = find-new p (ideal_of m).flights hyp.fresh_kernel

    state_next : ideal_of n ≡ next
    state_next = r.2.state ∙ ap (λ (s : State). record s { flights = new_flight p (ideal_of m).flights }) state1

    pub close_refines_by : Refines h m Event.Close made (machine_step h m Event.Close made)
    close_refines_by =
        let s = ideal_of m in
        let q = placement_of h m in
        let id = kernel_id m.kernel in
        let by : places_routing.Routed → Option places_landing.PlacementResult = λ z. places_landing.step_outcome (said z.held) next z.places in
        subst (Refines h m Event.Close made) (sym step) (
          ap (places_order.close_least s q) (least h m sound ∙ due)
              ∙ ap (λ o. places_order.order_by s (places_order.route_new s (ran_to o s) q) o) ran
              ∙ ap (λ b. by (if b then record { held = false; places = q } else places_routing.route id (places_routing.actor_for (target_of (flight id next.flights)) q) q)) next_number
              ∙ ap (λ o. by (places_routing.route id (places_routing.actor_for (target_of o) q) q)) flies
              ∙ (λ k. places_landing.step_outcome (said (sym r.2.told k)) (sym state_next k) (sym r.2.placed' k)),
          r.2.sound',
        )

  close_by : (o : Option ℕ) → least_closing G 1 G ≡ o → Refines h m Event.Close made (machine_step h m Event.Close made)
  close_by None e =
      subst (Refines h m Event.Close made) (sym (ap (λ o. done_by 0 m (Some (of_kernel (close_least h m.kernel o)))) e)) (ap (places_order.close_least (ideal_of m) (placement_of h m)) (least h m sound ∙ e), sound)
  close_by (Some g) e = close_refines_by g e

  -- the Close of the least grant that is due, or none
  pub close_refines : Refines h m Event.Close made (machine_step h m Event.Close made)
  close_refines = close_by (least_closing G 1 G) refl
