use Rattle.std.proofs.Common.{◌≡◌, ℕ, ◌+◌, ◌<◌, Some, Result, length, sym, ap, ◌∙◌, subst}
use Rattle.std.specs.Prelude.{is_none, slice_get}
use Rattle.m3_base.specs.declared.event.Said.{Said}
use Rattle.m3_base.specs.declared.order.Order.{Order}
use Rattle.m3_base.specs.declared.packet.Packet.{Packet}
use Rattle.m3_base.specs.Ideal.GrantRules.{fresh_of}
use Rattle.m3_base.specs.Ideal.State.{grant_in, undone}
use Rattle.m3_grants.specs.GrantTree.{GrantTree}
use Rattle.m3_model.specs.Kernel.Step.{kernel_order, route_to}
use Rattle.m3_model.specs.LocalStep.{local_result}
use Rattle.m3_kernel.specs.KernelStateView.{kernel_in}
use Rattle.m3_kernel.specs.OrderAnswers.{Orders}
use Rattle.m3_kernel.specs.ParcelView.{out_of}
use Rattle.m3_kernel.specs.StepContracts.{Routes}
use Rattle.m3_kernel.specs.declared.order.Ordered.{Ordered}
use Rattle.m3_kernel.specs.declared.order.OrderRefusal.{OrderRefusal}
use Rattle.m3_kernel.specs.declared.state.State.{State}
use Rattle.m3_kernel.proofs.OrderSteps.{error_is, with_grants, refused, grant_refused, granted, grants_new, install, made, none_some, record_new, some_same, with_new}
use Rattle.m3_kernel.proofs.TableLookup.{within_seats}
use Rattle.m3_kernel.proofs.state.State.make.Goals as goal

pub returns-in_err-grant-clause-orders : goal.returns-in_err-grant-clause-orders
returns-in_err-grant-clause-orders c =
    let s = c.args.self.now in
    let k = kernel_in s in
    let now = with_grants k c.make.new.self.grants in
    let why = c.in_err-grant.field-0.0 in
    let is = error_is c.from_residual.result why c.from_residual.ensures.0 c.from_residual.ensures.1 in
    let step = kernel_order s.site k (Order.Grant c.args.line) in
    subst (λ (r : Result Ordered OrderRefusal). Orders r k now step) (sym is) (
    refused why k now step (ap (λ (t : GrantTree). with_grants k t.grants) c.in_err-grant.ensures.kept) (λ no e. grant_refused s.site k c.args.line s.grants.memory c.requires.kept.memory no (sym c.in_err-grant.ensures.refused ∙ e))
    )

pub unreachable-requires : goal.unreachable-requires
unreachable-requires c =
    let s = c.args.self.now in
    let k = kernel_in s in
    let size = c.requires.kept.memory in
    let free = sym c.in_ok-grant.ensures.refused in
    let lists = ap (λ (t : GrantTree). t.grants) c.in_ok-grant.ensures.made ∙ grants_new s.site k c.args.line s.grants.memory size free in
    let there : fresh_of (undone (grant_in c.make.new.self.grants c.in_ok-grant.grant)) ≡ Some (made s.site k c.args.line s.grants.memory size free) =
    (λ i. fresh_of (undone (grant_in (lists i) (c.in_ok-grant.ensures.id i)))) ∙ record_new s.site k c.args.line s.grants.memory size free in
    none_some c.fresh.result (made s.site k c.args.line s.grants.memory size free) c.in_default.is (c.fresh.ensures ∙ there)

pub route-emit-requires-clause-there : goal.route-emit-requires-clause-there
route-emit-requires-clause-there c =
    let place = c.requires.place in
    subst (λ (n : ℕ). c.args.at < n) (sym (ap (λ (t : State). length t.seats.items) c.next_id-id.ensures.used)) (within_seats c.args.self.now.seats.items c.args.at place.seat place.here)

pub returns-clause-orders : goal.returns-clause-orders
returns-clause-orders c =
    let s = c.args.self.now in
    let k = kernel_in s in
    let size = c.requires.kept.memory in
    let free = sym c.in_ok-grant.ensures.refused in
    let lists = ap (λ (t : GrantTree). t.grants) c.in_ok-grant.ensures.made ∙ grants_new s.site k c.args.line s.grants.memory size free in
    let there : fresh_of (undone (grant_in c.make.new.self.grants c.in_ok-grant.grant)) ≡ Some (made s.site k c.args.line s.grants.memory size free) =
    (λ i. fresh_of (undone (grant_in (lists i) (c.in_ok-grant.ensures.id i)))) ∙ record_new s.site k c.args.line s.grants.memory size free in
    let same : Some c.in-Some.fresh ≡ Some (made s.site k c.args.line s.grants.memory size free) = sym c.in-Some.is ∙ c.fresh.ensures ∙ there in
    let fresh = sym (some_same c.in-Some.fresh (made s.site k c.args.line s.grants.memory size free) same) in
    let next = with_new s.site k c.args.line s.grants.memory size free in
    let kernel : next ≡ kernel_in c.next_id-id.new.self = sym (ap kernel_in c.next_id-id.ensures.used ∙ (λ i. record k { next = k.next + 1; grants = lists i })) in
    let home = sym (ap (λ (t : State). t.site) c.next_id-id.ensures.used) in
    let id = sym c.next_id-id.ensures.id in
    let to = sym c.act-to.ensures in
    let ep = sym c.ep-ep.ensures in
    let emit = c.route-emit.result in
    let new = kernel_in c.route-emit.new.self in
    let routes : Routes s.site next c.args.at (install s.site k c.args.line s.grants.memory size free) emit new =
    (λ i. route_to (home i) (Packet.Install (id i) (to i) (ep i) (fresh i)) (kernel i) (slice_get (kernel i).seats c.args.at)) ∙ c.route-emit.ensures.routes in
    granted s.site k c.args.line s.grants.memory size free c.args.at c.requires.place emit new c.in_ok-grant.grant c.in_ok-grant.ensures.id routes
    ∙ ap (λ n. local_result (Said.Granted c.in_ok-grant.grant n (is_none emit)) new (out_of emit)) id
