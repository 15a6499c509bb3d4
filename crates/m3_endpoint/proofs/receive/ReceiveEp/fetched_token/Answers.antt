use Rattle.std.proofs.Common.{arith}
use Rattle.std.proofs.lemmas.Grind.{common_steps}
use Rattle.m3_endpoint.proofs.TokenOrder.{ordered_view, smaller_at, below_at}
use Rattle.m3_endpoint.proofs.receive.ReceiveEp.fetched_token.Goals as goal

pub returns-clause-smaller : goal.returns-clause-smaller
returns-clause-smaller c = smaller_at c.args.self.now c.args.i _ (ordered_view c.self.inside _ c.self.view_is c.self.invariant.ordered) (grind (arith, common_steps))

pub returns-clause-below : goal.returns-clause-below
returns-clause-below c = below_at c.args.self.now c.args.i _ (ordered_view c.self.inside _ c.self.view_is c.self.invariant.ordered) (grind (arith, common_steps))
