use Rattle.std.proofs.Common.{Result, sym, ap, ◌∙◌, subst}
use Rattle.m3_base.specs.declared.order.Order.{Order}
use Rattle.m3_grants.specs.GrantTree.{GrantTree}
use Rattle.m3_model.specs.Kernel.Step.{kernel_order, revoke_with}
use Rattle.m3_kernel.specs.KernelStateView.{kernel_in}
use Rattle.m3_kernel.specs.OrderAnswers.{Orders}
use Rattle.m3_kernel.specs.declared.order.Ordered.{Ordered}
use Rattle.m3_kernel.specs.declared.order.OrderRefusal.{OrderRefusal}
use Rattle.m3_kernel.proofs.OrderSteps.{error_is, with_grants, refused}
use Rattle.m3_kernel.proofs.state.State.revoke.Goals as goal

pub returns-in_err-revoke-clause-orders : goal.returns-in_err-revoke-clause-orders
returns-in_err-revoke-clause-orders c =
    let k = kernel_in c.args.self.now in
    let now = with_grants k c.revoke.new.self.grants in
    let why = c.in_err-revoke.field-0.0 in
    let is = error_is c.from_residual.result why c.from_residual.ensures.0 c.from_residual.ensures.1 in
    let step = kernel_order c.args.self.now.site k (Order.Revoke c.args.grant) in
    subst (λ (r : Result Ordered OrderRefusal). Orders r k now step) (sym is) (
    refused why k now step (ap (λ (t : GrantTree). with_grants k t.grants) c.in_err-revoke.ensures.kept) (λ no e. ap (revoke_with k c.args.grant) (sym c.in_err-revoke.ensures.refused ∙ e))
    )
