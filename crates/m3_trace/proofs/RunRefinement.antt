-- Steps one after the other.
use Rattle.std.proofs.Common.{◌≡◌, List, [], ◌∷◌, ◌++◌, refl, sym, subst, ap, ◌∙◌}
use Rattle.m3_base.specs.declared.event.Entry.{Entry}
use Rattle.m3_base.specs.Ideal.State.{State}
use Rattle.m3_base.specs.Setup.Rules.{SetupValue, IsValid, programmed_acts}
use Rattle.m3_base.specs.Placement.State.{Placement}
use Rattle.m3_base.specs.Placement.EntryStep.{IsPlacementStep}
use Rattle.m3_base.specs.Journal.Entry.{EntryMatches, next_state, state_after_entries, IsRun}
use Rattle.m3_base.specs.Ideal.Opening.{opening}
use Rattle.m3_laws.specs.Invariant.{Invariant}
use Rattle.m3_laws.proofs.invariant.step.Invariant.{invariant_opening}
use Rattle.m3_model.specs.Config.Site.{Site}
use Rattle.m3_model.specs.Machine.{Machine}
use Rattle.m3_model.specs.Abstraction.{ideal_of, placement_of}
use Rattle.m3_trace.specs.Invariant.{MachineInvariant, StepRefines, PlacementRun, RunRefines}
use Rattle.m3_model.specs.SetupOpening.{opened_by_setup, opened_site}
use Rattle.m3_trace.proofs.ValidSetup.{valid_sound, opens_as}
use Rattle.m3_refine.proofs.bounds.MemorySize.{memory_at_opening}
use Rattle.m3_refine.proofs.bounds.ShutGrants.{shut_at_opening}
use Rattle.m3_refine.proofs.ways.WayOpens.{opens_way}

run_more : (s : State) (es : List Entry) (e : Entry) → IsRun s es → EntryMatches (state_after_entries s es) e → IsRun s (es ++ e ∷ [])
run_more s [] e run says = (says, tt)
run_more s (x ∷ es) e run says = (run.0, run_more (next_state s x) es e run.1 says)

after_more : (s : State) (es : List Entry) (e : Entry) → state_after_entries s (es ++ e ∷ []) ≡ next_state (state_after_entries s es) e
after_more s [] e = refl
after_more s (x ∷ es) e = after_more (next_state s x) es e

places_more : (s : State) (p : Placement) (es : List Entry) (mid : Placement) (e : Entry) (q : Placement) → PlacementRun s p es mid → IsPlacementStep (state_after_entries s es) mid e q → PlacementRun s p (es ++ e ∷ []) q
places_more s p [] mid e q same step = (q, subst (λ (r : Placement). IsPlacementStep s r e q) same step, refl)
places_more s p (x ∷ es) mid e q run step = (run.0, run.1, places_more (next_state s x) run.0 es mid e q run.2 step)

pub none_ran : (h : Site) (m : Machine) → MachineInvariant h m → RunRefines h m [] m
none_ran h m kept = record { run = tt; reaches = refl; places = refl; kept = kept }

pub more_ran : (h : Site) (old mid new : Machine) (es : List Entry) (e : Entry) → RunRefines h old es mid → StepRefines h mid e new → RunRefines h old (es ++ e ∷ []) new
more_ran h old mid new es e ran means = record {
  run = run_more (ideal_of old) es e ran.run (subst (λ (s : State). EntryMatches s e) (sym ran.reaches) means.says);
  reaches = after_more (ideal_of old) es e ∙ ap (λ (s : State). next_state s e) ran.reaches ∙ means.reaches;
  places = places_more (ideal_of old) (placement_of h old) es (placement_of h mid) e (placement_of h new) ran.places (subst (λ (s : State). IsPlacementStep s (placement_of h mid) e (placement_of h new)) (sym ran.reaches) means.placed);
  kept = means.kept;
}

-- a machine that a setup opens is kept
pub opened_kept : (s : SetupValue) → IsValid s → MachineInvariant (opened_site s) (opened_by_setup s)
opened_kept s v = record {
  sound = valid_sound s v;
  law = subst Invariant (sym (opens_as s v).0) (invariant_opening s v);
  way = opens_way (opened_site s) (opening s.memory s.lines);
  shut = shut_at_opening s.memory (programmed_acts s.lines) s.lines;
  memory = memory_at_opening s.memory (programmed_acts s.lines) s.lines;
}
