use Rattle.std.proofs.Common.{sym, ap, ◌∙◌, ◌≡◌, None}
use Rattle.m3_base.specs.Ideal.Context.{new_context}
use Rattle.m3_base.specs.Ideal.State.{context_of, new_context_in}
use Rattle.m3_ideal.specs.Tables.{present}
use Rattle.m3_ideal.proofs.Seats.{added_at, seated_add}
use Rattle.m3_ideal.proofs.contexts.Contexts.add.Goals as goal

pub invariant_of-self : goal.invariant_of-self
invariant_of-self c =
    seated_add c.number.result c.in_ok-context.context c.self.inside.table.items c.self.invariant (ap (λ x. x.act) c.in_ok-context.ensures ∙ sym c.number.ensures.same)

pub returns-clause-ok : goal.returns-clause-ok
returns-clause-ok c =
    let free : context_of c.number.result (present c.self.inside.table.items) ≡ None = ap (λ a. context_of a (present c.self.inside.table.items)) c.number.ensures.same ∙ ap (context_of c.args.act) c.self.view_is ∙ c.requires in
    added_at c.number.result c.in_ok-context.context c.self.inside.table.items c.self.invariant c.number.ensures.range free (ap (λ x. x.act) c.in_ok-context.ensures ∙ sym c.number.ensures.same)
    ∙ ap (λ x. new_context_in x (present c.self.inside.table.items)) c.in_ok-context.ensures
    ∙ ap (new_context_in (new_context c.args.act)) c.self.view_is
