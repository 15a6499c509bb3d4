use Rattle.std.proofs.Common.{◌∙◌, sym, ap}
use Rattle.std.specs.Prelude.{option_copied}
use Rattle.m3_base.specs.Placement.Order.{least_closing}
use Rattle.m3_base.proofs.Options.{none_if_not_some, some_if_some}
use Rattle.m3_engine.proofs.FirstFrom.{kernel_tends, kernel_closes, kernel_orders, kernel_switches, first_order, no_order}
use Rattle.m3_engine.proofs.next.next_of_kernel.Goals as goal

pub returns-in-Some : goal.returns-in-Some
returns-in-Some c = sym (kernel_tends c.args.kernel.now.site c.args.kernel.now.kernel c.args.left.now c.in-Some.act (sym c.least_tend.ensures ∙ c.in-Some.is))

pub returns-then-is_some : goal.returns-then-is_some
returns-then-is_some c =
    let k = c.args.kernel.now in
    let some = some_if_some c.next_close.result (sym c.is_some.ensures ∙ c.if-is_some.true) in
    sym (
    kernel_closes k.site k.kernel c.args.left.now (sym c.least_tend.ensures ∙ c.in_default.is) some.0 (
    ap (λ gs. least_closing gs 1 gs) (sym c.grants.ensures.grants) ∙ sym c.next_close.ensures.least ∙ some.1
    )
    )

pub returns-in-Some-first : goal.returns-in-Some-first
returns-in-Some-first c =
    let k = c.args.kernel.now in
    let none = none_if_not_some c.next_close.result (sym c.is_some.ensures ∙ c.if-is_some.false) in
    sym (
    kernel_orders k.site k.kernel c.args.left.now (sym c.least_tend.ensures ∙ c.in_default.is) (
    ap (λ gs. least_closing gs 1 gs) (sym c.grants.ensures.grants) ∙ sym c.next_close.ensures.least ∙ none
    ) _ (first_order c.args.left.now c.in-Some-first.order.now (ap option_copied (sym c.in-Some-first.is) ∙ c.first.ensures.value))
    )

pub returns-in-None : goal.returns-in-None
returns-in-None c =
    let k = c.args.kernel.now in
    let none = none_if_not_some c.next_close.result (sym c.is_some.ensures ∙ c.if-is_some.false) in
    c.next_switch.ensures
    ∙ sym (
    kernel_switches k.site k.kernel c.args.left.now (sym c.least_tend.ensures ∙ c.in_default.is) (
    ap (λ gs. least_closing gs 1 gs) (sym c.grants.ensures.grants) ∙ sym c.next_close.ensures.least ∙ none
    ) (no_order c.args.left.now (ap option_copied (sym c.in-None.is) ∙ c.first.ensures.value))
    )
