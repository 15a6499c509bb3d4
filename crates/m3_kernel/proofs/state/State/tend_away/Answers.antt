use Rattle.std.proofs.Common.{◌≡◌, ◌∙◌, Some, None, refl, sym, ap, subst}
use Rattle.m3_base.specs.declared.event.Said.{Said}
use Rattle.m3_base.specs.declared.event.IdleWhy.{IdleWhy}
use Rattle.m3_model.specs.Kernel.State.{Kernel}
use Rattle.m3_model.specs.Kernel.Step.{kernel_tend}
use Rattle.m3_kernel.specs.ActivityView.{deliverable_front}
use Rattle.m3_kernel.specs.KernelStateView.{kernel_in}
use Rattle.m3_kernel.specs.StepContracts.{IsTending}
use Rattle.m3_kernel.proofs.PerformSwitch.{same_seat}
use Rattle.m3_kernel.proofs.StepOutcome.{says_does}
use Rattle.m3_kernel.proofs.ApplyHeldPacket.{back_there, no_back_idle}
use Rattle.m3_kernel.proofs.state.State.tend_away.Goals as goal

pub returns-in_default-answer_target-clause-ok : goal.returns-in_default-answer_target-clause-ok
returns-in_default-answer_target-clause-ok c =
    let s = c.args.self.now in
    let place = c.requires.place in
    let front : deliverable_front place.seat ≡ Some c.in-Some.packet.now = ap deliverable_front (same_seat s c.args.at place.seat c.index.result.now place.here c.index.ensures) ∙ sym c.in-Some.ensures in
    says_does c.is_idle-in_default-answer_target.result (Said.Idle IdleWhy.EmptyHold) None (kernel_in s) (kernel_tend s.site (kernel_in s) c.args.act) c.is_idle-in_default-answer_target.ensures
    (no_back_idle s.site s c.requires.kept c.args.act c.args.at place c.requires.away c.in-Some.packet.now front c.in_default-answer_target.ensures refl)

pub reserve_answer-requires-clause-there : goal.reserve_answer-requires-clause-there
reserve_answer-requires-clause-there c = back_there (kernel_in c.args.self.now) c.in-Some.packet.now c.in-Some-answer_target.back c.in-Some-answer_target.ensures

pub deliver_held-requires-clause-tending : goal.deliver_held-requires-clause-tending
deliver_held-requires-clause-tending c =
    let s = c.args.self.now in
    let place = c.requires.place in
    let front : deliverable_front place.seat ≡ Some c.in-Some.packet.now = ap deliverable_front (same_seat s c.args.at place.seat c.index.result.now place.here c.index.ensures) ∙ sym c.in-Some.ensures in
    let tending : IsTending (kernel_in s) c.args.act c.args.at c.in-Some-answer_target.back c.in_ok-heard.heard = record {
      place = place;
      hears = record { packet = c.in-Some.packet.now; front = front; said = c.in_ok-heard.ensures };
      back_is = c.in-Some-answer_target.ensures;
    } in
    subst (λ (k : Kernel). IsTending k c.args.act c.args.at c.in-Some-answer_target.back c.in_ok-heard.heard) (sym c.reserve_answer.ensures.same) tending
