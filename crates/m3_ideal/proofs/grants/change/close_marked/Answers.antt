use Rattle.std.proofs.Common.{ap, sym, ◌∙◌, rules, take}
use Rattle.std.specs.Prelude.{slice_set, slice_index_or}
use Rattle.m3_base.specs.Ideal.GrantRules.{to_closing, closing_where}
use Rattle.m3_ideal.proofs.Marking.{closing_step, closing_all}
use Rattle.m3_ideal.proofs.grants.change.close_marked.Goals as goal

pub loop-at-preserved : goal.loop-at-preserved
loop-at-preserved c =
    let x = c.index-grants-at.result in
    let at = c.loop-at.at in
    let gs = c.args.grants.now in
    let marks = c.args.marks.now in
    ap (λ z. slice_set z at c.close_if.new.grant) c.loop-at.invariant
    ∙ ap (slice_set (closing_where (take at marks) gs) at) (c.close_if.ensures ∙ ap (to_closing c.mark_at-mark.result) (sym c.index-grants-at.is) ∙ ap (λ m. to_closing m x) c.mark_at-mark.ensures)
    ∙ closing_step marks gs at x c.loop-at-test.true (c.index-grants-at.is ∙ ap (λ z. slice_index_or z at x) c.loop-at.invariant)

pub returns : goal.returns
returns c = c.loop-at.invariant ∙ closing_all c.args.marks.now c.args.grants.now c.loop-at.at (search rules)
