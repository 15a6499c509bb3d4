use Rattle.std.proofs.Common.{◌-◌, ◌<◌, ◌≡◌, subst, ◌∙◌, ap, arith}
use Rattle.m3_base.specs.Ideal.GrantRules.{after_revoke}
use Rattle.m3_grants.specs.GrantTree.{GrantTree}
use Rattle.m3_base.specs.Setup.GrantTable.{IsTree, grants_of, as_grant, with_node}
use Rattle.m3_grants.specs.NodeView.{root_node, close_where}
use Rattle.m3_grants.proofs.NodeLookup.{tree_of}
use Rattle.m3_grants.proofs.SubtreeMarks.{marks_of}
use Rattle.m3_grants.proofs.RevokeSubtree.{tree_revoked, grants_revoked, some_undone}
use Rattle.m3_grants.proofs.grants.Grants.revoke.Goals as goal

pub invariant_of-self : goal.invariant_of-self
invariant_of-self c =
    let nodes = c.self.inside.nodes in
    let made : c.mark_root.new.nodes ≡ with_node (close_where (marks_of c.args.g (grants_of nodes)) nodes) (c.args.g - 1) root_node = c.mark_root.ensures ∙ ap (λ ns. with_node ns (c.args.g - 1) root_node) c.close_subtree.ensures.items in
    let whole : IsTree c.mark_root.new.nodes c.self.inside.held.items = rw made (tree_revoked nodes c.self.inside.held.items c.args.g c.self.invariant.tree) in
    record { size = c.self.invariant.size; tree = whole; none = c.close_subtree.ensures.none; spare = omega (arith, c.close_subtree.ensures.room, c.self.invariant.spare) }

pub returns-else-not-matches-clause-ok : goal.returns-else-not-matches-clause-ok
returns-else-not-matches-clause-ok c =
    let nodes = c.self.inside.nodes in
    let made : c.mark_root.new.nodes ≡ with_node (close_where (marks_of c.args.g (grants_of nodes)) nodes) (c.args.g - 1) root_node = c.mark_root.ensures ∙ ap (λ ns. with_node ns (c.args.g - 1) root_node) c.close_subtree.ensures.items in
    let some : 0 < c.args.g = some_undone c.args.self.now.grants c.args.g (as_grant c.in-Some.node) (c.in-Some.ensures).0 in
    let P : GrantTree → Type 0 = λ t. tree_of c.self.inside.memory (grants_of c.mark_root.new.nodes) ≡ tree_of t.memory (after_revoke t.grants c.args.g) in
    subst P c.self.view_is (ap (tree_of c.self.inside.memory) (ap grants_of made ∙ grants_revoked nodes c.args.g some))
