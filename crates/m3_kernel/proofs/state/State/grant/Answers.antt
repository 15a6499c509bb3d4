use Rattle.std.proofs.Common.{◌≡◌, ℕ, true, false, None, sym, ap, ◌∙◌, subst}
use Rattle.m3_base.specs.declared.order.Order.{Order}
use Rattle.m3_base.specs.Ideal.State.{holder}
use Rattle.m3_model.specs.Config.Site.{Site}
use Rattle.m3_model.specs.Kernel.State.{Kernel}
use Rattle.m3_model.specs.Kernel.Step.{entry_of, kernel_order}
use Rattle.m3_kernel.specs.KernelQueries.{is_seated}
use Rattle.m3_kernel.specs.KernelStateView.{kernel_in}
use Rattle.m3_kernel.specs.OrderAnswers.{Orders}
use Rattle.m3_kernel.proofs.TableLookup.{within_seats}
use Rattle.m3_kernel.proofs.state.State.grant.Goals as goal

pub unreachable-requires : goal.unreachable-requires
unreachable-requires c =
    let k = kernel_in c.args.self.now in
    let none : entry_of (holder c.args.line) k ≡ None = subst (λ (a : ℕ). entry_of a k ≡ None) (c.number.ensures.same ∙ c.act.ensures) c.in_default.ensures in
    let e : false ≡ true = sym (ap is_seated none) ∙ c.requires.seated in
    absurd (cc)

pub reserve-requires-clause-there : goal.reserve-requires-clause-there
reserve-requires-clause-there c =
    let place = c.in-Some.ensures in
    within_seats c.args.self.now.seats.items c.in-Some.at place.seat place.here

pub returns-clause-orders : goal.returns-clause-orders
returns-clause-orders c =
    let s = c.args.self.now in
    subst (λ (h : Site). Orders c.make.result (kernel_in s) (kernel_in c.make.new.self) (kernel_order h (kernel_in s) (Order.Grant c.args.line))) c.reserve.ensures.site (
    subst (λ (k : Kernel). Orders c.make.result k (kernel_in c.make.new.self) (kernel_order c.reserve.new.self.site k (Order.Grant c.args.line))) c.reserve.ensures.same c.make.ensures.orders
    )
