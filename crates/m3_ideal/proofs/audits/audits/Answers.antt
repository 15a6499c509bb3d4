use Rattle.std.proofs.Common.{◌≤◌, ◌∙◌, List, length, subst}
use Rattle.m3_base.specs.Ideal.State.{Grant}
use Rattle.m3_ideal.proofs.AuditLines.{audits_not, audits_if}
use Rattle.m3_ideal.proofs.audits.audits.Goals as goal

pub returns-then-not-are_credit_lines : goal.returns-then-not-are_credit_lines
returns-then-not-are_credit_lines c =
    audits_not c.args.ideal.now c.args.lines.now c.in_ok-credits.credits _ c.in_ok-credits.ensures (c.all.ensures.same ∙ c.grants.ensures) (subst (λ (gs : List Grant). length gs ≤ 4096) c.grants.ensures c.all.ensures.few) _ c.are_credit_lines.ensures c.if-not-are_credit_lines.true

pub returns : goal.returns
returns c =
    audits_if c.args.ideal.now c.args.lines.now c.in_ok-credits.credits _ c.in_ok-credits.ensures (c.all.ensures.same ∙ c.grants.ensures) (subst (λ (gs : List Grant). length gs ≤ 4096) c.grants.ensures c.all.ensures.few) _ _ c.are_credit_lines.ensures c.if-not-are_credit_lines.false c.is_flights_line.ensures
