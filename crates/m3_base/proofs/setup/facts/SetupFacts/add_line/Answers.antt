use Rattle.std.proofs.Common.{◌≡◌, subst, false}
use Rattle.m3_base.specs.declared.setup_line.SetupLine.{SetupLine}
use Rattle.m3_base.specs.Setup.Rules.{breaks_rule}
use Rattle.m3_base.proofs.SetupValidity.{grant_allowed}
use Rattle.m3_base.proofs.setup.facts.SetupFacts.add_line.Goals as goal

pub add_grant-requires : goal.add_grant-requires
add_grant-requires c =
    let P : SetupLine → Type 0 = λ l. breaks_rule l c.args.self.now ≡ false in
    grant_allowed c.args.self.now c.in-Grant.line (subst P c.in-Grant.is c.requires)
