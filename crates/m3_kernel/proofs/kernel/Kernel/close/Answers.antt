use Rattle.std.proofs.Common.{subst}
use Rattle.std.specs.Prelude.{IfOk}
use Rattle.m3_kernel.specs.KernelStateView.{KernelAt}
use Rattle.m3_kernel.specs.OrderAnswers.{HoldersAreSeated, IsNoneDue}
use Rattle.m3_kernel.proofs.kernel.Kernel.close.Goals as goal

pub returns-clause-due : goal.returns-clause-due
returns-clause-due c =
    subst (λ (m : KernelAt). HoldersAreSeated m.kernel → IfOk c.close.result (λ r. IsNoneDue r m.kernel)) c.self.view_is c.close.ensures.due
