use Rattle.std.proofs.Common.{ℕ, ◌∙◌, Some, None, sym, ap, subst}
use Rattle.m3_base.specs.declared.event.Said.{Said}
use Rattle.m3_base.specs.declared.event.IdleWhy.{IdleWhy}
use Rattle.m3_model.specs.Kernel.Step.{kernel_tend}
use Rattle.m3_kernel.specs.ActivityView.{seat_value}
use Rattle.m3_kernel.specs.KernelStateView.{kernel_in}
use Rattle.m3_kernel.specs.StepContracts.{IsSeatOf}
use Rattle.m3_kernel.proofs.PerformSwitch.{same_seat}
use Rattle.m3_kernel.proofs.TendFront.{placed_idle, leaving_idle, away_if}
use Rattle.m3_kernel.proofs.StepOutcome.{says_does}
use Rattle.m3_kernel.proofs.state.State.tend.Goals as goal

pub tend_away-requires-clause-away : goal.tend_away-requires-clause-away
tend_away-requires-clause-away c =
    let s = c.args.self.now in
    let place = c.in-Some.ensures in
    let x = c.index.result.now in
    let same = same_seat s c.in-Some.at place.seat x place.here c.index.ensures in
    let y = away_if (seat_value x).seating (λ q. c.in_default-place.not-Placed (c.place-2.ensures ∙ q)) (λ q. c.in_default-place.not-Leaving (c.place-2.ensures ∙ q)) in
    record { seat = seat_value x; away = y.0; here = place.here ∙ ap (λ z. Some z) same; is_away = y.1 }

pub returns-in-Placed-clause-ok : goal.returns-in-Placed-clause-ok
returns-in-Placed-clause-ok c =
    let s = c.args.self.now in
    let place = subst (λ (n : ℕ). IsSeatOf (kernel_in s) n c.in-Some.at) c.number.ensures.same c.in-Some.ensures in
    let x = c.index.result.now in
    let same = same_seat s c.in-Some.at place.seat x place.here c.index.ensures in
    says_does c.is_idle-in-Placed.result (Said.Idle IdleWhy.NotResting) None (kernel_in s) (kernel_tend s.site (kernel_in s) c.args.act) c.is_idle-in-Placed.ensures
    (placed_idle s.site (kernel_in s) c.args.act (seat_value x) (place.found ∙ ap (λ z. Some z) same) (sym c.place-2.ensures ∙ c.in-Placed.is))

pub returns-in-Leaving-clause-ok : goal.returns-in-Leaving-clause-ok
returns-in-Leaving-clause-ok c =
    let s = c.args.self.now in
    let place = subst (λ (n : ℕ). IsSeatOf (kernel_in s) n c.in-Some.at) c.number.ensures.same c.in-Some.ensures in
    let x = c.index.result.now in
    let same = same_seat s c.in-Some.at place.seat x place.here c.index.ensures in
    says_does c.is_idle-in-Leaving.result (Said.Idle IdleWhy.NotResting) None (kernel_in s) (kernel_tend s.site (kernel_in s) c.args.act) c.is_idle-in-Leaving.ensures
    (leaving_idle s.site (kernel_in s) c.args.act (seat_value x) (place.found ∙ ap (λ z. Some z) same) (sym c.place-2.ensures ∙ c.in-Leaving.is))
