use Rattle.std.proofs.Common.{refl}
use Rattle.m3_machine.specs.CreditCounts.{listed}
use Rattle.m3_machine.proofs.credit_counts.CreditCounterVisitor.context.Goals as goal

pub returns : goal.returns
returns c = (refl, c.context.ensures (listed c.args.self.now.contexts.contexts.items))
