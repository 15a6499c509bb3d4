-- What a program's turn means: its entry says what ideal steps say, it is a step of the places, and the machine keeps its
-- invariant. Its step is the one with the move that its outcome has.
use Rattle.std.proofs.Common.{◌≡◌, ℕ, Option, Some, refl, subst}
use Rattle.m3_base.specs.declared.event.Event.{Event}
use Rattle.m3_base.specs.declared.event.Made.{Made}
use Rattle.m3_base.specs.declared.event.Outcome.{Outcome}
use Rattle.m3_model.specs.Abstraction.{ideal_of}
use Rattle.m3_model.specs.Config.Site.{Site}
use Rattle.m3_model.specs.Machine.{Machine, MachineResult, machine_step}
use Rattle.m3_model.specs.Refinement.{placement_result, Refines}
use Rattle.m3_refine.proofs.bounds.MemorySize.{memory_kept}
use Rattle.m3_refine.proofs.bounds.ShutGrants.{shut_kept}
use Rattle.m3_refine.proofs.events.turn.TurnRefines.{turn_refines}
use Rattle.m3_refine.proofs.labels.OrdersSayIdealSteps.{HasContext}
use Rattle.m3_refine.proofs.labels.TurnOutcomeBelongs.{turn_context, turn_form}
use Rattle.m3_refine.proofs.theorem.AnyStepMoves.{any_step_moves, step_own_move}
use Rattle.m3_refine.proofs.ways.WaySteps.{way_kept}
use Rattle.m3_trace.proofs.FromIdealInvariant as laws
use Rattle.m3_trace.specs.Invariant.{MachineInvariant, StepRefines}
use Rattle.m3_trace.specs.JournalEntry.{entry}

module _ (h : Site) (m : Machine) (a : ℕ) (made : Option Made) (o : Outcome) (next : Machine) (step : machine_step h m (Event.Turn a) made ≡ Some (record { outcome = o; machine = next })) (kept : MachineInvariant h m) where
  abbrev did : MachineResult
  did = record { outcome = o; machine = next }

  own : machine_step h m (Event.Turn a) o.made ≡ Some did
  own = step_own_move h m (Event.Turn a) made did step

  refined : Refines h m (Event.Turn a) o.made (Some did)
  refined = subst (Refines h m (Event.Turn a) o.made) own (turn_refines h m a o.made kept.sound (laws.hypotheses h m kept.sound kept.law kept.way))

  context : HasContext (ideal_of m) (Event.Turn a)
  context = turn_context h m a made did kept.sound step

  pub turn_means : StepRefines h m (entry (Event.Turn a) o) next
  turn_means = record {
    says = (laws.says h m (Event.Turn a) o.made did context refined).0;
    reaches = (laws.says h m (Event.Turn a) o.made did context refined).1;
    placed = record { form = turn_form h m a made did step; moves = (placement_result h did, refined.0, record { said = refl; restore = refl; places = refl }) };
    moves = any_step_moves h m (Event.Turn a) made kept.sound tt tt did step;
    kept = record {
      sound = refined.1;
      law = laws.law_kept h m (Event.Turn a) o.made did context refined tt kept.law;
      way = way_kept h m kept.sound kept.way (Event.Turn a) made did tt step;
      shut = shut_kept h m (Event.Turn a) made did kept.shut step;
      memory = memory_kept h m (Event.Turn a) made did kept.memory step;
    };
  }
