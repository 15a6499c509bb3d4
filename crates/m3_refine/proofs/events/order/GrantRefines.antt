-- The order of a grant: refused, or a new grant whose Install is on the holder's home link or in its hold list.
use Rattle.std.proofs.Common.{◌≡◌, ℕ, zero, suc, ◌+◌, Bool, true, false, List, [], ◌∷◌, ◌++◌, length, Some, None, refl, sym, subst, ◌∙◌, ap, arith, Option}
use Rattle.std.specs.Prelude.{if◌then◌else◌, ◌==◌, is_some, is_none, slice_get}
use Rattle.std.specs.List.{list_all}
use Rattle.std.proofs.lemmas.Bool.Decides.{nat_tests}
use Rattle.m3_base.specs.declared.ids.FlightId.{FlightId}
use Rattle.m3_base.specs.declared.packet.Fresh.{Fresh}
use Rattle.m3_base.specs.declared.packet.Packet.{Packet}
use Rattle.m3_base.specs.declared.order.GrantLine.{GrantLine}
use Rattle.m3_base.specs.declared.order.Order.{Order}
use Rattle.m3_base.specs.declared.event.Event.{Event}
use Rattle.m3_base.specs.declared.event.Made.{Made}
use Rattle.m3_base.specs.declared.event.No.{No}
use Rattle.m3_base.specs.declared.event.Said.{Said}
use Rattle.m3_base.specs.Ideal.Context.{Context}
use Rattle.m3_base.specs.Ideal.Flights.{flight, new_flight}
use Rattle.m3_base.specs.Ideal.State.{Grant, State, context_of, grant_in, holder, holder_ep, parent_in, parent_of, undone}
use Rattle.m3_base.specs.Ideal.GrantRules.{form, make_refusal, new_grant, with_grant_made}
use Rattle.m3_base.specs.Ideal.Step.{IdealResult, ideal_run, make_for, make_in, on_from}
use Rattle.m3_base.specs.Journal.Entry.{ran_to}
use Rattle.m3_base.specs.Placement.Landing as places_landing
use Rattle.m3_base.specs.Placement.Order as places_order
use Rattle.m3_base.specs.Placement.Routing as places_routing
use Rattle.m3_base.specs.Placement.Routing.{target_of}
use Rattle.m3_base.specs.Placement.Step.{placement_step}
use Rattle.m3_base.proofs.FlightOrder.{find-new}
use Rattle.m3_base.proofs.GrantsByNumber.{grant_in-suc as numbered_back}
use Rattle.m3_merge.proofs.MergedIsRun.{each_append}
use Rattle.m3_model.specs.Config.Site.{Site}
use Rattle.m3_model.specs.Config.KnownActivities.{acts_in_form, is_home, is_named}
use Rattle.m3_model.specs.Kernel.Step.{Routed, kernel_id, make_with, own_packet_out, route}
use Rattle.m3_model.specs.Machine.{Machine, machine_step, done_by, of_kernel}
use Rattle.m3_model.specs.MemorySize.{HasMemorySize}
use Rattle.m3_model.specs.ShutGrants.{SentAreShut}
use Rattle.m3_model.specs.Abstraction.{all_contexts, all_packets, all_closed, is_in, closed_if, closed_from, ideal_of, placement_of}
use Rattle.m3_model.specs.Invariant.Housing.{IsPresent}
use Rattle.m3_model.specs.Invariant.IdealFacts.{IdealFacts}
use Rattle.m3_model.specs.Invariant.Structure.{CloseWasSent, MachineStructure}
use Rattle.m3_model.specs.Refinement.{Refines}
use Rattle.m3_refine.proofs.events.take.RouteStep.{itself}
use Rattle.m3_refine.proofs.abstraction.ChangeGrants.{regranted, regranted_sound}
use Rattle.m3_refine.proofs.abstraction.ClosingGrants.{length_closed}
use Rattle.m3_refine.proofs.abstraction.FindActor.{present-by_act}
use Rattle.m3_refine.proofs.abstraction.OpeningLines.{each_grant, form_names}
use Rattle.m3_refine.proofs.events.command.CommandRefines.{absent_back}
use Rattle.m3_refine.proofs.events.order.GrantRefusal.{form_is, refusal_is}
use Rattle.m3_refine.proofs.events.take.RouteRefines.{KnownActivity, known_activity, Routes, route_is, routed_by}
use Rattle.m3_base.proofs.Options.{some_if_some}

-- ---- a grant at the end of the list

get_before : (gs : List Grant) (z : Grant) (i : ℕ) (x : Grant) → slice_get gs i ≡ Some x → slice_get (gs ++ z ∷ []) i ≡ Some x
get_before [] z i x e = absurd (none x e)
  where
    none : (x : Grant) → None ≡ Some x → ⊥
    none x e = cc
get_before (y ∷ gs) z zero x e = e
get_before (y ∷ gs) z (suc i) x e = get_before gs z i x e

get_end : (gs : List Grant) → slice_get gs (length gs) ≡ None
get_end [] = refl
get_end (x ∷ gs) = get_end gs

closed_end : (xs : List ℕ) (n : ℕ) (gs : List Grant) (z : Grant) → closed_from n xs (gs ++ z ∷ []) ≡ closed_from n xs gs ++ closed_if (is_in xs (n + length gs)) z ∷ []
closed_end xs n [] z = λ k. closed_if (is_in xs ((let e : n ≡ n + 0 = omega arith in e) k)) z ∷ []
closed_end xs n (x ∷ gs) z =
    (λ k. closed_if (is_in xs n) x ∷ closed_end xs (n + 1) gs z k)
    ∙ (λ k. closed_if (is_in xs n) x ∷ (closed_from (n + 1) xs gs ++ closed_if (is_in xs ((let e : n + 1 + length gs ≡ n + suc (length gs) = omega arith in e) k)) z ∷ []))

-- ---- a parent that isn't done

undone_some : (o : Option Grant) (x : Grant) → undone o ≡ Some x → o ≡ Some x
undone_some None x e = absurd (cc)
undone_some (Some y) x e = grind (arith, e)

-- ---- the order

module _ (h : Site) (m : Machine) (sound : MachineStructure h m) (hyp : IdealFacts m) (shut : SentAreShut m.kernel.grants) (size : HasMemorySize h m) (line : GrantLine) (home : is_home h (holder line) ≡ true) (made : Option Made) where
  abbrev G : List Grant
  G = m.kernel.grants

  abbrev X : List ℕ
  X = all_closed m

  abbrev e : Event
  e = Event.Order (Order.Grant line)

  abbrev above : Option Grant
  above = undone (parent_in G (parent_of line))

  abbrev runs : Option IdealResult → Option places_landing.PlacementResult
  runs z = places_order.order_by (ideal_of m) (places_order.route_new (ideal_of m) (ran_to (on_from (ideal_run []) z) (ideal_of m)) (placement_of h m)) (on_from (ideal_run []) z)

  -- the holder has a context
  context : (c : Context) × (context_of (holder line) (ideal_of m).contexts ≡ Some c)
  context = some_if_some (context_of (holder line) (ideal_of m).contexts) (present-by_act (holder line) (all_contexts m) (present (context_of (holder line) (all_contexts m)) (sound.known (holder line) home)))
    where
      present : (o : Option Context) → IsPresent o → is_some o ≡ true
      present None k = absurd k
      present (Some c) k = refl

  placed : (o : Option No) (f : Option Fresh) → make_refusal h.memory G line ≡ o → form (length G + 1) line above ≡ f
      → placement_step (ideal_of m) (placement_of h m) e made ≡ runs (make_in (ideal_of m) line o f)
  placed o f r k =
      let s = ideal_of m in
      let its = form (length s.grants + 1) line (undone (parent_in s.grants (parent_of line))) in
      ap (λ z. runs (make_for s line z)) context.1
      ∙ ap (λ z. runs (make_in s line z its)) (refusal_is h m sound shut size line ∙ r)
      ∙ ap (λ z. runs (make_in s line o z)) (form_is h m sound shut size line ∙ k)

  -- ---- refused

  grant_refused : (why : No) (f : Option Fresh) → make_refusal h.memory G line ≡ Some why → form (length G + 1) line above ≡ f → Refines h m e made (machine_step h m e made)
  grant_refused why f r k =
      let s = ideal_of m in
      let q = placement_of h m in
      subst (Refines h m e made) (sym (ap (λ o. done_by 0 m (Some (of_kernel (make_with h m.kernel line o (form (length G + 1) line above))))) r))
      (placed (Some why) f r k ∙ ap (λ b. places_landing.step_outcome (Said.No why) s (if b then record { held = false; places = q } else places_routing.route (kernel_id m.kernel) (places_routing.actor_for (target_of (flight (kernel_id m.kernel) s.flights)) q) q).places) (itself m.kernel.next), sound)

  -- a line without a record is refused
  formless : make_refusal h.memory G line ≡ None → form (length G + 1) line above ≡ None → ⊥
  formless r k = none (is_none (form (length G + 1) line above)) (ap is_none k) _ r
    where
      none : (b : Bool) → b ≡ true → (o : Option No) → (if b then Some No.NoGrant else o) ≡ None → ⊥
      none true e o r = cc
      none false e o r = cc

  -- ---- made

  module _ (f : Fresh) (r0 : make_refusal h.memory G line ≡ None) (formed : form (length G + 1) line above ≡ Some f) where
    abbrev new : Grant
    new = new_grant line f

    abbrev longer : List Grant
    longer = m.kernel.grants ++ new_grant line f ∷ []

    abbrev p : Packet
    p = Packet.Install (kernel_id m.kernel) (holder line) (holder_ep line) f

    abbrev m1 : Machine
    m1 = regranted h m sound (m.kernel.next + 1) longer

    -- no Closed of the new grant is on its way
    not_in : is_in X (1 + length G) ≡ false
    not_in = by_test (is_in X (1 + length G)) refl
      where
        by_test : (b : Bool) → is_in X (1 + length G) ≡ b → b ≡ false
        by_test false k = refl
        by_test true k =
            let z : 1 + length G ≡ suc (length G) = omega arith in
            absurd (subst CloseWasSent (numbered_back G (length G) ∙ get_end G) (sound.shut (suc (length G)) (ap (is_in X) (sym z) ∙ k)))

    state1 : ideal_of m1 ≡ record (ideal_of m) { kernel_next = m.kernel.next + 1; grants = (ideal_of m).grants ++ new_grant line f ∷ [] }
    state1 =
        let last = closed_end X 1 G new ∙ ap (λ b. closed_from 1 X G ++ closed_if b new ∷ []) not_in in
        λ k. record (ideal_of m) { kernel_next = m.kernel.next + 1; grants = last k }

    shut1 : (n : ℕ) → is_in X n ≡ true → CloseWasSent (grant_in longer n)
    shut1 zero k = absurd (zero_shut (grant_in G zero) (grind (arith, nat_tests)) (sound.shut zero k))
      where
        zero_shut : (o : Option Grant) → o ≡ None → CloseWasSent o → ⊥
        zero_shut None q s = s
        zero_shut (Some y) q s = cc
    shut1 (suc i) k = by_grant (slice_get G i) refl (subst CloseWasSent (numbered_back G i) (sound.shut (suc i) k))
      where
        by_grant : (o : Option Grant) → slice_get G i ≡ o → CloseWasSent o → CloseWasSent (grant_in longer (suc i))
        by_grant None d s = absurd s
        by_grant (Some x) d s = subst CloseWasSent (sym (numbered_back longer i ∙ get_before G new i x d)) s

    sound1 : MachineStructure h m1
    sound1 = regranted_sound h m sound (m.kernel.next + 1) longer shut1 (each_append (λ x. is_home h (holder x.line) ≡ true) G (new ∷ []) sound.holders (home, tt))

    named : is_named h p ≡ true
    named =
        let its : list_all (is_home h) (acts_in_form f) ≡ true = form_names h (length G + 1) line above f (λ x k. each_grant (λ y. is_home h (holder y.line) ≡ true) G (parent_of line) x sound.holders (undone_some (parent_in G (parent_of line)) x k)) formed in
        grind (arith, home, its)

    absent : flight (kernel_id m.kernel) (all_packets m1) ≡ None
    absent = absent_back (kernel_id m.kernel) (all_packets m) hyp.fresh_kernel

    its : KnownActivity h m1 (holder line)
    its = known_activity h m1 (holder line) sound1 home

    r : (d : Routed) × (route h p m1.kernel ≡ Some d) × Routes h m1 sound1 p (holder line) refl named absent its (routed_by h m1 sound1 p (holder line) refl named absent its d) d.held
    r = route_is h m1 sound1 p (holder line) refl named absent its

    abbrev n : Machine
    n = routed_by h m1 sound1 p (holder line) refl named absent its r.0

    abbrev said : ℕ → Bool → Said
    said g held = Said.Granted g (kernel_id m.kernel) held

    step : machine_step h m e made ≡ Some (record { outcome = record { made = None; said = said (length G + 1) r.0.held; restore = None }; machine = n })
    step =
        ap (λ o. done_by 0 m (Some (of_kernel (make_with h m.kernel line o (form (length G + 1) line above))))) r0
        ∙ ap (λ o. done_by 0 m (Some (of_kernel (make_with h m.kernel line None o)))) formed
        ∙ ap (λ o. done_by 0 m (Some (of_kernel (own_packet_out m.kernel (said (length G + 1)) o)))) r.1

    abbrev next : State
    next = with_grant_made (ideal_of m) line f

    next_number : (m.kernel.next + 1 == m.kernel.next) ≡ false
    next_number = grind (arith, nat_tests)

    flies : flight (kernel_id m.kernel) next.flights ≡ Some p
    flies = find-new p (ideal_of m).flights hyp.fresh_kernel

    state_next : ideal_of n ≡ next
    state_next = r.2.state ∙ ap (λ (s : State). record s { flights = new_flight p (ideal_of m).flights }) state1

    grant_made : Refines h m e made (machine_step h m e made)
    grant_made =
        let s = ideal_of m in
        let q = placement_of h m in
        let id : FlightId = kernel_id m.kernel in
        let number : length s.grants + 1 ≡ length G + 1 = ap (λ i. i + 1) (length_closed X 1 G) in
        let by : ℕ → places_routing.Routed → Option places_landing.PlacementResult = λ g z. places_landing.step_outcome (said g z.held) next z.places in
        subst (Refines h m e made) (sym step) (
          placed None (Some f) r0 formed
              ∙ ap (λ g. by g (if m.kernel.next + 1 == m.kernel.next then record { held = false; places = q } else places_routing.route id (places_routing.actor_for (target_of (flight id next.flights)) q) q)) number
              ∙ ap (λ b. by (length G + 1) (if b then record { held = false; places = q } else places_routing.route id (places_routing.actor_for (target_of (flight id next.flights)) q) q)) next_number
              ∙ ap (λ o. by (length G + 1) (places_routing.route id (places_routing.actor_for (target_of o) q) q)) flies
              ∙ (λ k. places_landing.step_outcome (said (length G + 1) (sym r.2.told k)) (sym state_next k) (sym r.2.placed' k)),
          r.2.sound',
        )

  grant_by : (o : Option No) (f : Option Fresh) → make_refusal h.memory G line ≡ o → form (length G + 1) line above ≡ f → Refines h m e made (machine_step h m e made)
  grant_by (Some why) f r k = grant_refused why f r k
  grant_by None (Some f) r k = grant_made f r k
  grant_by None None r k = absurd (formless r k)

  -- the order of a grant, made or refused
  pub grant_refines : Refines h m (Event.Order (Order.Grant line)) made (machine_step h m (Event.Order (Order.Grant line)) made)
  grant_refines = grant_by (make_refusal h.memory G line) (form (length G + 1) line above) refl refl
