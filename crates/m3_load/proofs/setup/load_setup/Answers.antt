use Rattle.std.proofs.Common.{sym, subst}
use Rattle.m3_base.specs.declared.setup_line.SetupLine.{SetupLine}
use Rattle.m3_base.specs.Setup.Rules.{SetupValue, AllKept, facts_of}
use Rattle.m3_base.specs.Load.Setup.{load_lines}
use Rattle.std.specs.Prelude.{List}
use Rattle.m3_load.proofs.ValidLoad.{load_kept}
use Rattle.m3_load.proofs.setup.load_setup.Goals as goal

pub add_lines-requires : goal.add_lines-requires
add_lines-requires c =
    subst (λ (ls : List SetupLine). AllKept ls (facts_of c.in_ok-setup.setup)) (sym c.in_ok-load_lines.ensures) (
    subst (λ (x : SetupValue). AllKept (load_lines c.args.rounds) (facts_of x)) (sym c.in_ok-setup.ensures) (load_kept c.args.rounds c.requires.1)
    )
