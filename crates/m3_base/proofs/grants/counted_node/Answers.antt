use Rattle.m3_base.proofs.GrantTableLookup.{stands_at}
use Rattle.m3_base.proofs.grants.counted_node.Goals as goal

pub returns : goal.returns
returns c = rw c.node_at.ensures.found (stands_at c.args.nodes.now c.args.g c.node_at.ensures.some c.requires)
