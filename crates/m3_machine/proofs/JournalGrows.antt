-- A machine's journal grows by an entry with each step of its engine.
use Rattle.std.proofs.Common.{◌≡◌, ◌<◌, ◌≤◌, ◌++◌, ◌∷◌, [], ℕ, List, true, length, map, None, Some, refl, sym, ap, subst, ◌∙◌}
use Rattle.m3_base.specs.declared.event.Event.{Event}
use Rattle.m3_base.specs.declared.event.Entry.{Entry}
use Rattle.m3_base.specs.declared.event.Outcome.{Outcome}
use Rattle.m3_base.specs.declared.order.Order.{Order}
use Rattle.m3_base.specs.Ideal.State.{holder}
use Rattle.m3_base.specs.Journal.Entry.{EntryMatches, next_state}
use Rattle.m3_base.specs.Placement.EntryStep.{IsPlacementStep}
use Rattle.m3_base.specs.Setup.Rules.{SetupValue, IsValid}
use Rattle.m3_model.specs.Abstraction.{ideal_of, placement_of}
use Rattle.m3_model.specs.Events.{IsOfSetup, IsWithin}
use Rattle.m3_model.specs.Machine.{Machine, machine_step}
use Rattle.m3_model.specs.Config.KnownActivities.{is_home}
use Rattle.m3_model.specs.Config.Site.{Site, home_act}
use Rattle.m3_model.specs.Invariant.Housing.{IsPresent, resident_at}
use Rattle.m3_model.specs.SetupOpening.{opened_site}
use Rattle.m3_trace.specs.IdleOutcomes.{IsIdle}
use Rattle.m3_trace.specs.Invariant.{StepRefines}
use Rattle.m3_trace.specs.JournalEntry.{entry}
use Rattle.m3_trace.specs.Trace.{IsTrace}
use Rattle.m3_trace.proofs.IdleStays.{idle_state, idle_places}
use Rattle.m3_trace.proofs.TraceGrows.{step_means, more_trace}
use Rattle.m3_engine.specs.EngineView.{EngineAt, CanMake, Makes}

pub can_make : (s : SetupValue) (es : List Entry) (e : EngineAt) → e.site ≡ opened_site s → IsTrace s es e.machine → CanMake e
can_make s es e here trace = record {
  entries = length es;
  few = trace.few;
  low = trace.low;
  number = trace.number;
  stays = trace.stays;
  residents = subst (λ (h : Site). (a : ℕ) → is_home h a ≡ true → IsPresent (resident_at h e.machine.tiles a)) (sym here) trace.ran.kept.sound.housed.stays;
  seats = trace.ran.kept.sound.housed.seats ∙ sym (ap (λ (h : Site). map home_act h.homes) here);
}

-- what the step of an engine's machine is
pub record EngineStepMeans (s : SetupValue) (old : Machine) (e : Event) (o : Outcome) (new : Machine) : Type 0 where
  pub moved : machine_step (opened_site s) old e o.made ≡ Some (record { outcome = o; machine = new })
  pub step : StepRefines (opened_site s) old (entry e o) new
  pub idle : IsIdle o.said → (ideal_of new ≡ ideal_of old) × (placement_of (opened_site s) new ≡ placement_of (opened_site s) old)

module _ (s : SetupValue) (old new : EngineAt) (es : List Entry) (e : Event) (o : Outcome) (here : old.site ≡ opened_site s) (trace : IsTrace s es old.machine)
    (own : IsOfSetup (opened_site s) e) (within : IsWithin e) (makes : Makes old e o new) where
  moved : machine_step (opened_site s) old.machine e o.made ≡ Some (record { outcome = o; machine = new.machine })
  moved = subst (λ (h : Site). machine_step h old.machine e o.made ≡ Some (record { outcome = o; machine = new.machine })) here makes.moved

  pub still_site : new.site ≡ opened_site s
  still_site = makes.site ∙ here

  pub longer_trace : length es < 2097152 → IsTrace s (es ++ entry e o ∷ []) new.machine
  longer_trace room = more_trace s es old.machine trace e o.made o new.machine room own within moved

  refined : StepRefines (opened_site s) old.machine (entry e o) new.machine
  refined = step_means s es old.machine trace e o.made o new.machine own within moved

  pub engine_means : EngineStepMeans s old.machine e o new.machine
  engine_means = record {
    moved = moved;
    step = refined;
    idle = λ i. (
      sym refined.reaches ∙ idle_state (ideal_of old.machine) e o i refined.placed.form,
      idle_places (ideal_of old.machine) (placement_of (opened_site s) old.machine) e o (placement_of (opened_site s) new.machine) i refined.placed,
    );
  }
