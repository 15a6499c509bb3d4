use Rattle.std.proofs.Common.{◌∷◌, sym, subst}
use Rattle.m3_base.specs.declared.setup_line.SetupLine.{SetupLine}
use Rattle.m3_engine.specs.OpeningInvariant.{Progress}
use Rattle.m3_engine.proofs.ContextTable.{act_step}
use Rattle.m3_engine.proofs.opening.apply_line.Goals as goal

pub returns-in_ok-declare-in-Act : goal.returns-in_ok-declare-in-Act
returns-in_ok-declare-in-Act c left p =
    subst (λ t. Progress c.args.setup.now t c.args.count left) (sym c.in_ok-declare-in-Act.ensures) (
    act_step c.args.setup.now c.args.table.now.items c.args.count c.in-Act.act c.in-Act.tile left
    (subst (λ (l : SetupLine). Progress c.args.setup.now c.args.table.now.items c.args.count (l ∷ left)) c.in-Act.is p)
    )
