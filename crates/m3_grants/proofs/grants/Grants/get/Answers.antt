use Rattle.std.proofs.Common.{subst}
use Rattle.m3_base.specs.Ideal.State.{grant_in}
use Rattle.m3_grants.specs.GrantTree.{GrantTree}
use Rattle.m3_base.specs.Setup.GrantTable.{Stands}
use Rattle.m3_base.proofs.GrantTableLookup.{stands_at}
use Rattle.m3_grants.proofs.grants.Grants.get.Goals as goal

pub returns : goal.returns
returns c =
    let P : GrantTree → Type 0 = λ t. Stands t.grants c.args.g (grant_in t.grants c.args.g) c.get.result in
    subst P c.self.view_is (rw c.get.ensures.found (stands_at c.self.inside.nodes c.args.g c.get.ensures.some c.self.invariant.tree.children))
