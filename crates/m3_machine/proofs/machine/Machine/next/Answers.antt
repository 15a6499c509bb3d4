use Rattle.std.proofs.Common.{◌≡◌, Option, sym, subst, ◌∙◌}
use Rattle.std.specs.Prelude.{IfSome}
use Rattle.m3_base.specs.declared.event.Event.{Event}
use Rattle.m3_base.specs.Placement.Driver.{next_event}
use Rattle.m3_model.specs.Events.{SuitsPrograms}
use Rattle.m3_model.specs.SetupOpening.{opened_site}
use Rattle.m3_trace.proofs.DriverWithPrograms.{next_left_kept}
use Rattle.m3_machine.specs.EventNames.{NamesActs}
use Rattle.m3_machine.specs.MachineView.{ideal, placement}
use Rattle.m3_machine.proofs.NextFits.{by_left, next_names, next_suits}
use Rattle.m3_machine.proofs.machine.Machine.next.Goals as goal

pub returns-clause-event : goal.returns-clause-event
returns-clause-event g c =
    let m = c.self.inside in
    let s = g.R.Recorder.setup m.recorder in
    let e = m.engine in
    subst (λ w. c.next.result ≡ next_event (ideal w) (placement w) w.left) c.self.view_is (
    by_left e (opened_site s) m.orders c.left.result.now c.next.result c.next.ensures c.self.invariant.site c.left.ensures
    ∙ next_left_kept (opened_site s) e.machine c.self.invariant.trace.ran.kept m.orders
    )

pub returns-clause-names : goal.returns-clause-names
returns-clause-names g c =
    let m = c.self.inside in
    let s = g.R.Recorder.setup m.recorder in
    let e = m.engine in
    subst (λ w. IfSome c.next.result (NamesActs w.setup)) c.self.view_is (
    subst (λ (o : Option Event). IfSome o (NamesActs s)) (sym (by_left e (opened_site s) m.orders c.left.result.now c.next.result c.next.ensures c.self.invariant.site c.left.ensures)) (
    next_names s e.machine c.self.invariant.trace.valid c.self.invariant.trace.ran.kept.sound c.self.invariant.trace.ready m.orders c.self.invariant.orders
    )
    )

pub returns-clause-suits : goal.returns-clause-suits
returns-clause-suits g c =
    let m = c.self.inside in
    let s = g.R.Recorder.setup m.recorder in
    let e = m.engine in
    subst (λ w. IfSome c.next.result (SuitsPrograms (opened_site w.setup))) c.self.view_is (
    subst (λ (o : Option Event). IfSome o (SuitsPrograms (opened_site s))) (sym (by_left e (opened_site s) m.orders c.left.result.now c.next.result c.next.ensures c.self.invariant.site c.left.ensures)) (
    next_suits s e.machine c.self.invariant.trace.valid c.self.invariant.trace.ran.kept.sound c.self.invariant.trace.ready m.orders c.self.invariant.orders
    )
    )
