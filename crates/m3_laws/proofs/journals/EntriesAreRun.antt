-- The steps of a journal that says what they say are one run.
use Rattle.std.proofs.Common.{◌≡◌, List, [], ◌∷◌, ◌++◌, Some, None, refl, sym, subst, ap, ◌∙◌}
use Rattle.std.specs.Prelude.{Option, IsSomeAnd}
use Rattle.m3_base.specs.declared.event.Said.{Said}
use Rattle.m3_base.specs.declared.event.Entry.{Entry}
use Rattle.m3_base.specs.declared.step.Step.{Step}
use Rattle.m3_base.specs.Ideal.State.{State}
use Rattle.m3_base.specs.Ideal.Step.{IdealResult, ideal_step, RunResult, ideal_run, on_from, with_label}
use Rattle.m3_base.specs.Journal.Entry.{MatchesBy, Shows, IsRun, steps_of, ran_to, next_state}
use Rattle.m3_base.specs.Ideal.MessageTraces.{state_after_steps, final}
use Rattle.m3_base.specs.Journal.Replies.{steps_in}
use Rattle.m3_laws.specs.MessageOrder.{HasNext, AllHaveNext}
use Rattle.m3_laws.specs.JournalLaws.{StepsAreRun}

-- ---- the steps of one entry

-- the steps have their cases, and this is where they lead
record Reaches (s : State) (ts : List Step) (r : State) : Type 0 where
  exist : AllHaveNext s ts
  reach : final s ts ≡ r

run_reaches : (ts : List Step) (s : State) (r : RunResult) → ideal_run ts s ≡ Some r → Reaches s ts r.state
run_reaches [] s r e = record { exist = tt; reach = ap (λ o. ran_to o s) e }
run_reaches (t ∷ ts) s r e = let h = by_next (ideal_step s t) (λ n x q. run_reaches ts n.state x q) e in record { exist = h.0; reach = h.1 }
  where
    Later : Type 0
    Later = (n : IdealResult) (x : RunResult) → ideal_run ts n.state ≡ Some x → Reaches n.state ts x.state

    Goal : Option IdealResult → Type 0
    Goal o = (HasNext o × AllHaveNext (state_after_steps s o) ts) × (final (state_after_steps s o) ts ≡ r.state)

    by_more : Later → (n : IdealResult) (o : Option RunResult) → ideal_run ts n.state ≡ o → with_label n.word o ≡ Some r → Goal (Some n)
    by_more later n None q w = absurd (cc)
    by_more later n (Some x) q w = let h = later n x q in ((tt, h.exist), h.reach ∙ ap (λ o. ran_to o n.state) w)

    by_next : (o : Option IdealResult) → Later → on_from (ideal_run ts) o ≡ Some r → Goal o
    by_next None later w = absurd (cc)
    by_next (Some n) later w = by_more later n (ideal_run ts n.state) refl w

says_reach : (ts : List Step) (s : State) (said : Said) → MatchesBy ts s said → Reaches s ts (ran_to (ideal_run ts s) s)
says_reach [] s said h = record { exist = tt; reach = refl }
says_reach (t ∷ ts) s said h = by_ran (ideal_run (t ∷ ts) s) refl h
  where
    by_ran : (o : Option RunResult) → ideal_run (t ∷ ts) s ≡ o → IsSomeAnd o (λ r. Shows r.words said) → Reaches s (t ∷ ts) (ran_to o s)
    by_ran None e z = absurd z
    by_ran (Some r) e z = run_reaches (t ∷ ts) s r e

-- ---- whole journals

append_exist : (s : State) (xs ys : List Step) → AllHaveNext s xs → AllHaveNext (final s xs) ys → AllHaveNext s (xs ++ ys)
append_exist s [] ys h k = k
append_exist s (t ∷ xs) ys h k = (h.0, append_exist (state_after_steps s (ideal_step s t)) xs ys h.1 k)

append_final : (s : State) (xs ys : List Step) → final s (xs ++ ys) ≡ final (final s xs) ys
append_final s [] ys = refl
append_final s (t ∷ xs) ys = append_final (state_after_steps s (ideal_step s t)) xs ys

pub one_run : (s : State) (es : List Entry) → IsRun s es → StepsAreRun s es
one_run s [] h = record { exist = tt; reach = refl }
one_run s (e ∷ es) h =
    let ts = steps_of e.event e.outcome in
    let first = says_reach ts s e.outcome.said h.0 in
    let more = one_run (next_state s e) es h.1 in
    record {
      exist = append_exist s ts (steps_in es) first.exist (subst (λ x. AllHaveNext x (steps_in es)) (sym first.reach) more.exist);
      reach = append_final s ts (steps_in es) ∙ (ap (λ x. final x (steps_in es)) first.reach ∙ more.reach);
    }
