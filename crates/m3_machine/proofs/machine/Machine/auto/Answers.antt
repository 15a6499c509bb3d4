use Rattle.std.proofs.Common.{◌≡◌, ◌<◌, ◌-◌, ℕ, Some, length, ap, sym, subst, ◌∙◌, arith}
use Rattle.std.specs.Prelude.{IfSome, nat_le}
use Rattle.std.proofs.lemmas.Bool.Decides.{nat_tests}
use Rattle.m3_base.specs.declared.event.Event.{Event}
use Rattle.m3_base.specs.DriverRun.Choices.{choice}
use Rattle.m3_model.specs.Events.{SuitsPrograms}
use Rattle.m3_model.specs.SetupOpening.{opened_site}
use Rattle.m3_machine.specs.MachineView.{configuration}
use Rattle.m3_machine.proofs.AutoRuns.{driven_more, one_entry}
use Rattle.m3_machine.proofs.machine.Machine.auto.Goals as goal

pub loop-event-smaller : goal.loop-event-smaller
loop-event-smaller g c =
    let old = c.loop-event.self in
    let room : length old.entries < c.args.budget = (let few = sym c.has_entries.ensures ∙ c.if-has_entries.false in grind (arith, nat_tests, few)) in
    let more = one_entry g.P.Program.moves old c.in-Some.event c.step.new.self c.in_ok-step.ensures.ok in
    omega arith

pub loop-event-preserved : goal.loop-event-preserved
loop-event-preserved g c =
    let old = c.loop-event.self in
    let room : length old.entries < c.args.budget = (let few = sym c.has_entries.ensures ∙ c.if-has_entries.false in grind (arith, nat_tests, few)) in
    driven_more g.P.Program.moves old c.in-Some.event c.step.new.self c.in_ok-step.ensures.ok c.args.budget c.args.self.now c.loop-event.invariant c.in-Some.ensures.suits (sym c.next.ensures.event ∙ c.in-Some.is) room
