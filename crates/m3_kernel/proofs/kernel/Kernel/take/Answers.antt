use Rattle.std.proofs.Common.{subst}
use Rattle.std.specs.Prelude.{IfOk}
use Rattle.m3_model.specs.Kernel.Step.{kernel_take}
use Rattle.m3_kernel.specs.ParcelView.{parcel_of}
use Rattle.m3_kernel.specs.KernelStateView.{KernelAt, kernel_in}
use Rattle.m3_kernel.specs.StepContracts.{Does}
use Rattle.m3_kernel.proofs.kernel.Kernel.take.Goals as goal

pub returns-clause-ok : goal.returns-clause-ok
returns-clause-ok c =
    subst (λ (m : KernelAt). IfOk c.take.result (λ d. Does d (kernel_in c.take.new.self) (kernel_take m.site m.kernel (parcel_of c.args.parcel)))) c.self.view_is c.take.ensures.ok
