use Rattle.std.proofs.Common.{subst}
use Rattle.m3_model.specs.Config.Site.{Site}
use Rattle.m3_model.specs.Kernel.State.{Kernel}
use Rattle.m3_model.specs.Kernel.Step.{take_data}
use Rattle.m3_kernel.specs.KernelStateView.{kernel_in}
use Rattle.m3_kernel.specs.StepContracts.{Does}
use Rattle.m3_kernel.proofs.state.State.take_data.Goals as goal

pub returns-in-Ok-clause-ok : goal.returns-in-Ok-clause-ok
returns-in-Ok-clause-ok c =
    let s = c.args.self.now in
    subst (λ (h : Site). Does c.take_routed.result (kernel_in c.take_routed.new.self) (take_data h (kernel_in s) c.args.packet)) c.reserve.ensures.site (
    subst (λ (k : Kernel). Does c.take_routed.result (kernel_in c.take_routed.new.self) (take_data c.reserve.new.self.site k c.args.packet)) c.reserve.ensures.same c.take_routed.ensures.does
    )
