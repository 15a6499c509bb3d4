use Rattle.std.proofs.Common.{Result, sym, ◌∙◌, subst}
use Rattle.m3_kernel.specs.OrderAnswers.{Orders}
use Rattle.m3_kernel.specs.declared.order.Ordered.{Ordered}
use Rattle.m3_kernel.specs.declared.order.OrderRefusal.{OrderRefusal}
use Rattle.m3_kernel.proofs.StepOutcome.{refused_told}
use Rattle.m3_kernel.proofs.done.done_by_order.Goals as goal

pub returns-in-Some : goal.returns-in-Some
returns-in-Some c old new step orders =
    refused_told c.says.result c.in-Err.why c.in-Some.cause (sym c.cause_of.ensures ∙ c.in-Some.is) c.says.ensures old new step (
    subst (λ (r : Result Ordered OrderRefusal). Orders r old new step) c.in-Err.is orders
    )
