use Rattle.std.proofs.Common.{◌≡◌, ℕ, true, false, None, sym, ap, ◌∙◌, subst}
use Rattle.m3_base.specs.Ideal.State.{holder}
use Rattle.m3_model.specs.Kernel.Step.{entry_of}
use Rattle.m3_kernel.specs.KernelQueries.{is_seated}
use Rattle.m3_kernel.specs.KernelStateView.{kernel_in}
use Rattle.m3_kernel.proofs.TableLookup.{within_seats}
use Rattle.m3_kernel.proofs.state.State.close.Goals as goal

pub returns-in_default-place-clause-due : goal.returns-in_default-place-clause-due
returns-in_default-place-clause-due c seated =
    let k = kernel_in c.args.self.now in
    let due = c.in-Some.ensures in
    let none : entry_of (holder due.made.line) k ≡ None = subst (λ (a : ℕ). entry_of a k ≡ None) (c.number.ensures.same ∙ due.act) c.in_default-place.ensures in
    let e : false ≡ true = sym (ap is_seated none) ∙ seated c.in-Some.due.grant due.made due.there in
    absurd (cc)

pub reserve-requires-clause-there : goal.reserve-requires-clause-there
reserve-requires-clause-there c =
    let place = c.in-Some-place.ensures in
    within_seats c.args.self.now.seats.items c.in-Some-place.at place.seat place.here
