use Rattle.std.proofs.Common.{◌∙◌, None, rules, subst, ℕ}
use Rattle.m3_base.specs.declared.event.Said.{Said}
use Rattle.m3_base.specs.declared.event.IdleWhy.{IdleWhy}
use Rattle.m3_model.specs.Kernel.Step.{entry_of, take_saved}
use Rattle.m3_kernel.specs.KernelStateView.{kernel_in}
use Rattle.m3_kernel.specs.StepContracts.{IsSeatOf}
use Rattle.m3_kernel.proofs.TakeYieldAndSaved.{saved_dropped}
use Rattle.m3_kernel.proofs.StepOutcome.{says_does}
use Rattle.m3_kernel.proofs.state.State.take_saved.Goals as goal

pub returns-in_default-place : goal.returns-in_default-place
returns-in_default-place c =
    let s = c.args.self.now in
    let a = c.args.context.act in
    let place = subst (λ (n : ℕ). IsSeatOf (kernel_in s) n c.in-Some.at) (c.number.ensures.same ∙ c.act.ensures) c.in-Some.ensures in
    record {
      kept = search rules;
      site = search rules;
      does = says_does c.dropped-in_default-place.result (Said.Idle IdleWhy.EmptyLink) None (kernel_in s) (take_saved s.site (kernel_in s) c.args.context c.args.waiting c.args.ended (entry_of a (kernel_in s))) c.dropped-in_default-place.ensures
          (saved_dropped s c.requires a c.in-Some.at place c.index.result.now c.index.ensures c.args.context c.args.waiting c.args.ended (λ q. c.in_default-place.not-Leaving (c.place-2.ensures ∙ q)));
    }
