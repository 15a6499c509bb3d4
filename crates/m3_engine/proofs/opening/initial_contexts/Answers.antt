use Rattle.std.proofs.Common.{◌+◌, ◌∷◌, sym, subst, List, drop, ◌∙◌, ap}
use Rattle.std.proofs.lemmas.List.{drop_more}
use Rattle.m3_base.specs.declared.setup_line.SetupLine.{SetupLine}
use Rattle.m3_engine.specs.OpeningInvariant.{Progress}
use Rattle.m3_engine.proofs.ContextTable.{begins}
use Rattle.m3_engine.proofs.opening.initial_contexts.Goals as goal

pub loop-line-init : goal.loop-line-init
loop-line-init c =
    subst (λ (ls : List SetupLine). Progress c.args.setup.now c.in_ok-table.table.items 0 ls) (sym c.lines-line-items.ensures.lines) (
    begins c.args.setup.now c.in_ok-table.table.items c.lines-line-items.ensures.valid c.in_ok-table.ensures
    )

pub loop-line-preserved : goal.loop-line-preserved
loop-line-preserved c = c.in_ok-count.ensures (drop (c.loop-line.line-index + 1) c.lines-line-items.result.now) (
    subst (λ (ls : List SetupLine). Progress c.args.setup.now c.loop-line.table.items c.loop-line.count ls) (
    drop_more c.lines-line-items.result.now c.loop-line.line-index _ c.loop-line-test.true ∙ ap (λ x. x ∷ drop (c.loop-line.line-index + 1) c.lines-line-items.result.now) (sym c.line-item.is)
    ) c.loop-line.invariant
    )
