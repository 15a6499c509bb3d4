-- What any step of the machine means: of an event that no program makes, whatever move is given, and of a turn.
use Rattle.std.proofs.Common.{◌≡◌, Option, Some, ◌∙◌}
use Rattle.m3_base.specs.declared.event.Event.{Event}
use Rattle.m3_base.specs.declared.event.Made.{Made}
use Rattle.m3_base.specs.declared.event.Outcome.{Outcome}
use Rattle.m3_model.specs.Config.Site.{Site}
use Rattle.m3_model.specs.Events.{IsOfSetup, IsServed, IsWithin}
use Rattle.m3_model.specs.Machine.{Machine, machine_step}
use Rattle.m3_model.specs.NumberBounds.{RestoresBounded}
use Rattle.m3_refine.proofs.theorem.AnyStepMoves.{unasked_step}
use Rattle.m3_refine.proofs.theorem.NoProgramMoves.{IsNoTurn}
use Rattle.m3_trace.proofs.StepRefinement.{means}
use Rattle.m3_trace.proofs.TurnRefinement.{turn_means}
use Rattle.m3_trace.specs.Invariant.{MachineInvariant, StepRefines}
use Rattle.m3_trace.specs.JournalEntry.{entry}

module _ (h : Site) (m : Machine) (made : Option Made) (o : Outcome) (next : Machine) (kept : MachineInvariant h m) (low : RestoresBounded m) where
  -- of an event that no program makes
  other_means : (e : Event) → IsOfSetup h e → IsWithin e → IsNoTurn e → IsServed e → machine_step h m e made ≡ Some (record { outcome = o; machine = next }) → StepRefines h m (entry e o) next
  other_means e own within other served step = means h m e o next (unasked_step h m e made other ∙ step) kept low own within served

  pub any_means : (e : Event) → IsOfSetup h e → IsWithin e → machine_step h m e made ≡ Some (record { outcome = o; machine = next }) → StepRefines h m (entry e o) next
  any_means (Event.Do a c) own within step = other_means (Event.Do a c) own within tt tt step
  any_means (Event.Take to from) own within step = other_means (Event.Take to from) own within tt tt step
  any_means (Event.Turn a) own within step = turn_means h m a made o next step kept
  any_means (Event.Tend a) own within step = other_means (Event.Tend a) own within tt tt step
  any_means Event.Close own within step = other_means Event.Close own within tt tt step
  any_means (Event.Order order) own within step = other_means (Event.Order order) own within tt tt step
  -- no part makes a step at a line on files
  any_means (Event.File line) own within step = absurd (cc)
