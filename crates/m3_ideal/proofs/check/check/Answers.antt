use Rattle.m3_ideal.proofs.OnlyVerdict.{only_verdict}
use Rattle.m3_ideal.proofs.check.check.Goals as goal

pub returns-clause-only : goal.returns-clause-only
returns-clause-only c = only_verdict c.args.journal.now.setup c.args.journal.now.entries.items c.args.audit.now.lines.items c.verdict.result c.verdict.ensures
