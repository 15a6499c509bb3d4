use Rattle.std.proofs.Common.{sym, ap, ◌∙◌}
use Rattle.m3_base.specs.Ideal.State.{holder, holder_ep}
use Rattle.m3_grants.specs.GrantTree.{holder_in}
use Rattle.m3_kernel.proofs.OrderSteps.{due_there, none_some}
use Rattle.m3_kernel.proofs.state.State.due_close.Goals as goal

pub returns-in_err-act : goal.returns-in_err-act
returns-in_err-act c =
    let due = due_there c.args.self.now.grants.grants c.in_ok-grant.grant (sym c.next_close.ensures.least ∙ c.in_ok-grant.was) in
    absurd (none_some c.holder.result (holder due.0.line, holder_ep due.0.line) c.in_err-act.was (c.holder.ensures ∙ ap holder_in due.1.1))
