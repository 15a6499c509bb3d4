-- The theorem of refinement: each local step of a part, with what it does to links, is a step of the ideal machine.
use Rattle.std.specs.Prelude.{◌≡◌, Option, Some}
use Rattle.m3_base.specs.declared.event.Event.{Event}
use Rattle.m3_base.specs.declared.event.Made.{Made}
use Rattle.m3_base.specs.declared.event.Outcome.{Outcome}
use Rattle.m3_model.specs.Config.Site.{Site}
use Rattle.m3_model.specs.Machine.{Machine, machine_step}
use Rattle.m3_model.specs.Events.{IsOfSetup, IsWithin}
use Rattle.m3_model.specs.NumberBounds.{RestoresBounded}
use Rattle.m3_trace.specs.Invariant.{MachineInvariant, StepRefines}
use Rattle.m3_trace.specs.JournalEntry.{entry}

-- a step of a machine that keeps its invariant is a step of the ideal machine and of its placement, and the machine keeps
-- it: a command, a take, a tend, a close, an order, or a program's turn with whatever move it makes
abbrev pub StepsRefine : Type 0
StepsRefine = (h : Site) (m : Machine) (e : Event) (made : Option Made) (o : Outcome) (next : Machine)
    → MachineInvariant h m → RestoresBounded m → IsOfSetup h e → IsWithin e
    → machine_step h m e made ≡ Some (record { outcome = o; machine = next }) → StepRefines h m (entry e o) next
