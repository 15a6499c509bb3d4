-- The invariant holds at each opening of a valid setup, and each step keeps it.
use Rattle.std.proofs.Common.{◌≡◌, List, [], ◌∷◌, Some, None, refl, subst}
use Rattle.std.specs.Prelude.{Option}
use Rattle.m3_base.specs.declared.step.Step.{Step}
use Rattle.m3_base.specs.Ideal.State.{State}
use Rattle.m3_base.specs.Ideal.Step.{IdealResult, ideal_step, RunResult, ideal_run, on_from, with_label}
use Rattle.m3_base.specs.Ideal.Opening.{opening}
use Rattle.m3_base.specs.Setup.Rules.{SetupValue, IsValid}
use Rattle.m3_base.specs.Ideal.MessageTraces.{state_after_steps, final}
use Rattle.m3_base.proofs.SetupObligations.{valid_obeys}
use Rattle.m3_laws.specs.Laws.{Fits, AllFit}
use Rattle.m3_laws.specs.Invariant.{Invariant}
use Rattle.m3_laws.proofs.invariant.step.StepKeeps.{AllLawful, step_lawful}
use Rattle.m3_laws.proofs.invariant.step.OpeningHolds.{always_lawful}
use Rattle.m3_laws.proofs.invariant.wellformed.StepKeeps.{AllProper, step_proper, valid_proper}
use Rattle.m3_laws.proofs.invariant.commands.StepKeeps.{AllInOrder, step_in_order}
use Rattle.m3_laws.proofs.invariant.commands.OpeningHolds.{opening_in_order}

pub invariant_opening : (v : SetupValue) → IsValid v → Invariant (opening v.memory v.lines)
invariant_opening v ok = record { lawful = always_lawful v.memory v.lines [] (valid_obeys v ok) tt; proper = valid_proper v ok; commands = opening_in_order v.memory v.lines }

pub invariant_step : (s : State) (t : Step) (n : IdealResult) → Fits t → Invariant s → ideal_step s t ≡ Some n → Invariant n.state
invariant_step s t n k law e = record {
  lawful = subst AllLawful e (step_lawful s t law.lawful k);
  proper = subst AllProper e (step_proper s law.lawful law.proper t k);
  commands = subst AllInOrder e (step_in_order s law.lawful law.proper law.commands t);
}

pub invariant_after : (s : State) (t : Step) → Fits t → Invariant s → Invariant (state_after_steps s (ideal_step s t))
invariant_after s t k law = by_next (ideal_step s t) refl
  where
    by_next : (o : Option IdealResult) → ideal_step s t ≡ o → Invariant (state_after_steps s o)
    by_next None e = law
    by_next (Some n) e = invariant_step s t n k law e

pub invariant_final : (s : State) (ts : List Step) → AllFit ts → Invariant s → Invariant (final s ts)
invariant_final s [] k law = law
invariant_final s (t ∷ ts) k law = invariant_final (state_after_steps s (ideal_step s t)) ts k.1 (invariant_after s t k.0 law)

pub invariant_run : (s : State) (ts : List Step) (r : RunResult) → AllFit ts → Invariant s → ideal_run ts s ≡ Some r → Invariant r.state
invariant_run s [] r k law e = let q : record { words = []; state = s } ≡ r = cc in subst (λ z. Invariant z.state) q law
invariant_run s (t ∷ ts) r k law e = by_next (ideal_step s t) refl e (λ n q m. invariant_run n ts q k.1 m)
  where
    ran : (n : IdealResult) (o : Option RunResult) → ideal_run ts n.state ≡ o → with_label n.word o ≡ Some r → ((q : RunResult) → ideal_run ts n.state ≡ Some q → Invariant q.state) → Invariant r.state
    ran n None w e ih = absurd (cc)
    ran n (Some q) w e ih = let same : record { words = n.word ∷ q.words; state = q.state } ≡ r = cc in subst (λ z. Invariant z.state) same (ih q w)

    by_next : (o : Option IdealResult) → ideal_step s t ≡ o → on_from (ideal_run ts) o ≡ Some r → ((n : State) (q : RunResult) → Invariant n → ideal_run ts n ≡ Some q → Invariant q.state) → Invariant r.state
    by_next None w e ih = absurd (cc)
    by_next (Some n) w e ih = ran n (ideal_run ts n.state) refl e (λ q. ih n.state q (invariant_step s t n k.0 law w))

-- after every run of every valid setup
pub invariant_ever : (v : SetupValue) (ts : List Step) → IsValid v → AllFit ts → Invariant (final (opening v.memory v.lines) ts)
invariant_ever v ts ok k = invariant_final (opening v.memory v.lines) ts k (invariant_opening v ok)
