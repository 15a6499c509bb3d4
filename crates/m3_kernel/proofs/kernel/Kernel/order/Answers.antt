use Rattle.std.proofs.Common.{subst}
use Rattle.m3_model.specs.Kernel.Step.{kernel_order}
use Rattle.m3_kernel.specs.KernelStateView.{KernelAt, kernel_in}
use Rattle.m3_kernel.specs.OrderAnswers.{Orders}
use Rattle.m3_kernel.proofs.kernel.Kernel.order.Goals as goal

pub returns-clause-orders : goal.returns-clause-orders
returns-clause-orders c =
    subst (λ (m : KernelAt). Orders c.order.result m.kernel (kernel_in c.order.new.self) (kernel_order m.site m.kernel c.args.order)) c.self.view_is c.order.ensures.orders
