-- Where the grants of a run keep off a ring, so do the writes of others.
use Rattle.std.proofs.Common.{◌≡◌, ◌≢◌, ℕ, ◌+◌, ◌≤◌, true, List, [], ◌∷◌, length, Some, None, refl, sym, subst, ◌∙◌, ap, arith, inl, inr}
use Rattle.std.specs.Prelude.{Option, ◌⊎◌}
use Rattle.std.proofs.lemmas.Bool.Decides.{nat_tests}
use Rattle.m3_base.specs.declared.ids.FlightId.{FlightId}
use Rattle.m3_base.specs.declared.command.Command.{Command}
use Rattle.m3_base.specs.declared.packet.Packet.{Packet}
use Rattle.m3_base.specs.declared.packet.Fresh.{Fresh}
use Rattle.m3_base.specs.declared.packet.Perm.{Perm}
use Rattle.m3_base.specs.declared.step.Step.{Step}
use Rattle.m3_base.specs.Ideal.Flights.{flight, new_flight}
use Rattle.m3_base.specs.Ideal.Context.{Context}
use Rattle.m3_base.specs.Ideal.Issue.{Issued, issue}
use Rattle.m3_base.specs.Ideal.State.{State, Grant, context_of, put_context, grant_in}
use Rattle.m3_base.specs.Ideal.Step.{ideal_step, issue_in, issued_in, with_packet}
use Rattle.m3_base.specs.Ideal.Credits.{covers}
use Rattle.m3_base.specs.Ideal.Opening.{opening}
use Rattle.m3_base.specs.Ideal.MessageTraces.{state_after_steps}
use Rattle.m3_base.specs.Ideal.FlightNames.{Apart}
use Rattle.m3_base.proofs.FlightOrder.{find-new}
use Rattle.m3_laws.specs.Laws.{AllFit}
use Rattle.m3_laws.specs.WellFormed.{is_covered}
use Rattle.m3_laws.specs.Invariant.{Invariant}
use Rattle.m3_laws.proofs.invariant.step.Invariant.{invariant_opening, invariant_after}
use Rattle.m3_laws.proofs.invariant.step.IssueEffects.{NewPacket, issue_effect}
use Rattle.m3_laws.proofs.grants.OpenWhileUsed.{write_held}
use Rattle.m3_pipe_laws.specs.Pipe.{Disjoint, WritesOutside, IssuesOutside, CommandOutside, StepOutside, AllOutside}
use Rattle.m3_pipe_laws.specs.Exclusion.{Clear, ClearAt, AllClear, ClearStatesKeepOut}
use Rattle.m3_base.proofs.Activities.{act_found}

-- bytes of a grant that is clear
covered_clear : (start len g place n : ℕ) (f : Fresh) → covers g place n Perm.W f ≡ true → Clear start len f → Disjoint start len place n
covered_clear start len g place n (Fresh.Send h a b to_grant label size limit) c k = absurd (cc)
covered_clear start len g place n (Fresh.Receive h slots size) c k = absurd (cc)
covered_clear start len g place n (Fresh.Memory h at l perm) c (inl k) = absurd (grind (arith, nat_tests, c, k))
covered_clear start len g place n (Fresh.Memory h at l perm) c (inr (inl d)) = let lower : at ≤ place = grind (arith, nat_tests, c) in inl (omega (arith, lower, d))
covered_clear start len g place n (Fresh.Memory h at l perm) c (inr (inr d)) = let upper : place + n ≤ at + l = grind (arith, nat_tests, c) in inr (omega (arith, upper, d))

-- a write that flies is clear of these bytes, if it is no write of the writer's
flying_clear : (w out start len : ℕ) (s : State) → Invariant s → ClearAt w out start len s → (y : FlightId) (g place : ℕ) (payload : List ℕ) → flight y s.flights ≡ Some (Packet.Write y g place payload) → y.issuer ≢ w → Disjoint start len place (length payload)
flying_clear w out start len s law clear y g place payload find ne = by_grant (grant_in s.grants g) refl (law.proper.packets y (Packet.Write y g place payload) find).entitled
  where
    by_side : (x : Grant) → grant_in s.grants g ≡ Some x → covers g place (length payload) Perm.W x.fresh ≡ true → (g ≡ out) ⊎ (Clear start len x.fresh ⊎ ((id z : FlightId) (place : ℕ) (payload : List ℕ) → flight id s.flights ≡ Some (Packet.Write z g place payload) → ⊥)) → Disjoint start len place (length payload)
    by_side x at c (inl q) =
        let h = write_held s law y y g place payload find in
        absurd (ne (sym h.1.act ∙ clear.writer h.1.grant (subst (λ z. grant_in s.grants z ≡ Some h.1.grant) q h.1.found)))
    by_side x at c (inr (inl k)) = covered_clear start len g place (length payload) x.fresh c k
    by_side x at c (inr (inr k)) = absurd (k y y place payload find)

    by_grant : (o : Option Grant) → grant_in s.grants g ≡ o → is_covered place (length payload) Perm.W g o ≡ true → Disjoint start len place (length payload)
    by_grant None at c = absurd (cc)
    by_grant (Some x) at c = by_side x at c (clear.others g x at)

issue_outside : (w out start len : ℕ) (s : State) (a : ℕ) (k : Command) → Invariant s → Invariant (state_after_steps s (ideal_step s (Step.Issue a k))) → ClearAt w out start len (state_after_steps s (ideal_step s (Step.Issue a k))) → a ≢ w → CommandOutside start len (context_of a s.contexts) k
issue_outside w out start len s a k law law' clear ne = by_context (context_of a s.contexts) refl law' clear
  where
    by_packet : (c : Context) (i : Issued) (mp : Option Packet) → context_of a s.contexts ≡ Some c → NewPacket c i.context mp → Invariant (record s { contexts = put_context i.context s.contexts; flights = with_packet mp s.flights }) → ClearAt w out start len (record s { contexts = put_context i.context s.contexts; flights = with_packet mp s.flights }) → WritesOutside start len mp
    by_packet c i None at n l k = tt
    by_packet c i (Some (Packet.Message to ep g m)) at n l k = tt
    by_packet c i (Some (Packet.Credit y to g)) at n l k = tt
    by_packet c i (Some (Packet.Read y g place buffer)) at n l k = tt
    by_packet c i (Some (Packet.Answer y answer)) at n l k = tt
    by_packet c i (Some (Packet.Install y to ep f)) at n l k = tt
    by_packet c i (Some (Packet.Close y to ep g)) at n l k = tt
    by_packet c i (Some (Packet.Write y g place payload)) at n l k =
        let apart : Apart y s.flights = subst (λ z. Apart z s.flights) (sym n.0) ((law.lawful.traffic.contexts a c at).apart c.next (omega arith)) in
        let act : y.issuer ≡ a = ap (λ z. z.issuer) n.0 ∙ sym (act_found a c s.contexts at) in
        flying_clear w out start len (record s { contexts = put_context i.context s.contexts; flights = new_flight (Packet.Write y g place payload) s.flights }) l k y g place payload (find-new (Packet.Write y g place payload) s.flights apart) (λ z. ne (sym act ∙ z))

    by_issue : (c : Context) → context_of a s.contexts ≡ Some c → (o : Option Issued) → issue c k ≡ o → Invariant (state_after_steps s (issued_in s o)) → ClearAt w out start len (state_after_steps s (issued_in s o)) → IssuesOutside start len o
    by_issue c at None q l k' = tt
    by_issue c at (Some i) q l k' = by_packet c i i.packet at (issue_effect c k i q ((law.lawful.traffic.contexts a c at).fresh c.next (omega arith))).packet l k'

    by_context : (o : Option Context) → context_of a s.contexts ≡ o → Invariant (state_after_steps s (issue_in s o k)) → ClearAt w out start len (state_after_steps s (issue_in s o k)) → CommandOutside start len o k
    by_context None at l k' = tt
    by_context (Some c) at l k' = by_issue c at (issue c k) refl l k'

step_clear : (w out start len : ℕ) (s : State) (t : Step) → Invariant s → Invariant (state_after_steps s (ideal_step s t)) → ClearAt w out start len (state_after_steps s (ideal_step s t)) → StepOutside w start len s t
step_clear w out start len s (Step.Issue a k) law law' clear = λ ne. issue_outside w out start len s a k law law' clear ne
step_clear w out start len s (Step.Await a ep) law law' clear = tt
step_clear w out start len s (Step.Land id) law law' clear = tt
step_clear w out start len s (Step.Answered id) law law' clear = tt
step_clear w out start len s (Step.Make line) law law' clear = tt
step_clear w out start len s (Step.Revoke g) law law' clear = tt
step_clear w out start len s (Step.Close g) law law' clear = tt
step_clear w out start len s (Step.Closed g) law law' clear = tt
step_clear w out start len s (Step.Done g) law law' clear = tt

run_clear : (w out start len : ℕ) (s : State) (ts : List Step) → Invariant s → AllFit ts → AllClear w out start len s ts → AllOutside w start len s ts
run_clear w out start len s [] law fit clear = tt
run_clear w out start len s (t ∷ ts) law fit clear =
    let next = invariant_after s t fit.0 law in
    (step_clear w out start len s t law next clear.0, run_clear w out start len (state_after_steps s (ideal_step s t)) ts next fit.1 clear.1)

pub clears_outside : ClearStatesKeepOut
clears_outside setup steps w out start len valid fit clear = run_clear w out start len (opening setup.memory setup.lines) steps (invariant_opening setup valid) fit clear
