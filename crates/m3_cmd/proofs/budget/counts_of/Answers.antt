use Rattle.std.proofs.Common.{◌≡◌, ◌<◌, List, length, get_or, sym, subst}
use Rattle.m3_base.specs.declared.setup_line.SetupLine.{SetupLine}
use Rattle.m3_cmd.specs.BudgetCounts.{AreFew}
use Rattle.m3_cmd.proofs.BudgetCounts.{counted_next, few_at}
use Rattle.m3_cmd.proofs.budget.counts_of.Goals as goal

pub loop-line-preserved : goal.loop-line-preserved
loop-line-preserved c =
    let at = c.loop-line in
    let all = c.lines-line-items.ensures.lines in
    let l = c.line-item.result in
    counted_next at.line-index c.args.setup.now l at.counts c.count_line.new.counts c.lines-line-items.ensures.valid c.requires
    (subst (λ (ls : List SetupLine). at.line-index < length ls) all c.loop-line-test.true)
    (subst (λ (ls : List SetupLine). l ≡ get_or ls at.line-index l) all c.line-item.is) at.invariant c.count_line.ensures

pub count_line-requires : goal.count_line-requires
count_line-requires c =
    subst AreFew (sym c.loop-line.invariant) (few_at c.loop-line.line-index c.args.setup.now c.lines-line-items.ensures.valid c.requires)

pub returns-clause-few : goal.returns-clause-few
returns-clause-few c =
    subst AreFew (sym c.loop-line.invariant) (few_at c.loop-line.line-index c.args.setup.now c.lines-line-items.ensures.valid c.requires)
