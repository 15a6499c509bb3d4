use Rattle.m3_engine.proofs.PartStep.{puts_out}
use Rattle.m3_engine.proofs.engine.push.Goals as goal

pub returns-in-Some-clause-lists : goal.returns-in-Some-clause-lists
returns-in-Some-clause-lists c = puts_out c.args.wires.now.lists _ c.args.from c.args.emit c.in-Some.emit c.in-Some.is c.push.ensures.lists
