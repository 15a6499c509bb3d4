use Rattle.std.proofs.Common.{◌≡◌, ◌∙◌, subst}
use Rattle.m3_base.specs.Placement.Order.{least_closing}
use Rattle.m3_grants.specs.GrantTree.{GrantTree, IsChildless}
use Rattle.m3_base.specs.Setup.GrantTable.{grants_of}
use Rattle.m3_grants.proofs.NodeLookup.{first_is, childless}
use Rattle.m3_grants.proofs.grants.Grants.next_close.Goals as goal

pub returns-clause-least : goal.returns-clause-least
returns-clause-least c =
    let P : GrantTree → Type 0 = λ t. c.first_due.result ≡ least_closing t.grants 1 t.grants in
    subst P c.self.view_is (c.first_due.ensures ∙ first_is c.self.inside.nodes c.self.invariant.tree.children)

pub returns-clause-children_first : goal.returns-clause-children_first
returns-clause-children_first c =
    let P : GrantTree → Type 0 = λ t. IsChildless t.grants c.first_due.result in
    subst P c.self.view_is (childless (grants_of c.self.inside.nodes) c.first_due.result (c.first_due.ensures ∙ first_is c.self.inside.nodes c.self.invariant.tree.children))
