use Rattle.std.proofs.Common.{rules, refl}
use Rattle.m3_base.specs.Setup.Rules.{breaks_rule, facts_of}
use Rattle.m3_base.proofs.SetupValidity.{no_rule, ok_no_rule, memory_no_rule}
use Rattle.m3_base.proofs.setup.Setup.add.Goals as goal

pub returns-in-Ok-clause-rule : goal.returns-in-Ok-clause-rule
returns-in-Ok-clause-rule c = no_rule (breaks_rule c.args.line (facts_of c.args.self.now)) _ (search rules) (ok_no_rule tt _ refl)

pub returns-in-Err-clause-rule : goal.returns-in-Err-clause-rule
returns-in-Err-clause-rule c = no_rule (breaks_rule c.args.line (facts_of c.args.self.now)) _ (search rules) (memory_no_rule _ refl)
