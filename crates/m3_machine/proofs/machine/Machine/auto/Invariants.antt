use Rattle.std.proofs.Common.{ℕ, ◌-◌, length}
use Rattle.m3_machine.specs.MachineStep.{IsDrivenOn}
use Rattle.m3_machine.proofs.machine.Machine.auto.Given as goal

abbrev pub invariant-loop-event : goal.invariant-loop-event
invariant-loop-event g l = IsDrivenOn l.fn.budget l.initial.self l.self

abbrev pub decreases-loop-event : goal.decreases-loop-event
decreases-loop-event g l = l.fn.budget - length l.self.entries
