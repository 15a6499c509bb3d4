use Rattle.std.proofs.Common.{refl, arith, ◌+◌, ◌-◌, ◌*◌, ◌<◌, ◌≡◌, Some, None, true, set, subst, ◌∙◌, ap}
use Rattle.m3_base.specs.Ideal.State.{grant_in, parent_of, holder, holder_ep}
use Rattle.m3_grants.specs.GrantTree.{GrantTree, is_sent_in, is_undone_in, with_done}
use Rattle.m3_base.specs.Setup.GrantTable.{as_grant, IsTree, grants_of, is_rightful}
use Rattle.m3_grants.specs.NodeView.{has_child_under}
use Rattle.m3_grants.proofs.NodeLookup.{tree_of}
use Rattle.m3_grants.proofs.MarkDone.{tree_done, child_under, before_of, finished, grants_done, IsThere, there_is}
use Rattle.m3_grants.proofs.grants.Grants.closed.Goals as goal

pub remove_child-requires : goal.remove_child-requires
remove_child-requires c =
    let nodes = c.self.inside.nodes in
    let x = as_grant c.in_ok-node.node in
    let P : GrantTree → Type 0 = λ t. grant_in t.grants c.args.g ≡ Some x → is_sent_in (grant_in t.grants c.args.g) ≡ true → is_undone_in (grant_in t.grants c.args.g) ≡ true → has_child_under nodes (parent_of x.line) ≡ true in
    rw c.parent.ensures (subst P c.self.view_is (λ e s u.
    let k : IsThere (grants_of nodes) c.args.g x = there_is (grants_of nodes) c.args.g x e s u in
    child_under nodes c.args.g x (parent_of x.line) refl k.at k.undone c.self.invariant.tree.children (before_of (grants_of nodes) (c.args.g - 1) x (subst (λ o. is_rightful (grants_of nodes) (c.args.g - 1) o ≡ true) k.at (c.self.invariant.tree.rightful (c.args.g - 1))))) (c.in_ok-node.ensures).0 c.requires.sent c.requires.undone)

pub invariant_of-self : goal.invariant_of-self
invariant_of-self c =
    let nodes = c.self.inside.nodes in
    let x = as_grant c.in_ok-node.node in
    let made : c.mark_done.new.nodes ≡ finished nodes c.args.g (parent_of x.line) = grind (arith, c.mark_done.ensures, c.remove_child.ensures, c.parent.ensures) in
    let at : c.endpoint_index-at.result ≡ 16 * holder x.line + holder_ep x.line = grind (arith, c.endpoint_index-at.ensures.at, c.act.ensures, c.ep.ensures) in
    let act : holder x.line < 64 = grind (arith, c.endpoint_index-at.ensures.act, c.act.ensures) in
    let ep : holder_ep x.line < 16 = grind (arith, c.endpoint_index-at.ensures.ep, c.ep.ensures) in
    let P : GrantTree → Type 0 = λ t. grant_in t.grants c.args.g ≡ Some x → is_sent_in (grant_in t.grants c.args.g) ≡ true → is_undone_in (grant_in t.grants c.args.g) ≡ true → IsTree (finished nodes c.args.g (parent_of x.line)) (set c.self.inside.held.items (16 * holder x.line + holder_ep x.line) None) in
    let whole : IsTree c.mark_done.new.nodes (set c.self.inside.held.items c.endpoint_index-at.result None) =
    rw (made, at) (subst P c.self.view_is (λ e s u.
    let k : IsThere (grants_of nodes) c.args.g x = there_is (grants_of nodes) c.args.g x e s u in
    tree_done nodes c.self.inside.held.items c.args.g x c.self.invariant.tree k.some k.at k.undone k.sent act ep) (c.in_ok-node.ensures).0 c.requires.sent c.requires.undone) in
    record { size = c.self.invariant.size; tree = whole; none = c.self.invariant.none; spare = c.self.invariant.spare }

pub returns-clause-done : goal.returns-clause-done
returns-clause-done c =
    let nodes = c.self.inside.nodes in
    let x = as_grant c.in_ok-node.node in
    let made : c.mark_done.new.nodes ≡ finished nodes c.args.g (parent_of x.line) = grind (arith, c.mark_done.ensures, c.remove_child.ensures, c.parent.ensures) in
    let P : GrantTree → Type 0 = λ t. grant_in t.grants c.args.g ≡ Some x → is_sent_in (grant_in t.grants c.args.g) ≡ true → is_undone_in (grant_in t.grants c.args.g) ≡ true → tree_of c.self.inside.memory (grants_of c.mark_done.new.nodes) ≡ tree_of t.memory (with_done t.grants c.args.g) in
    subst P c.self.view_is (λ e s u.
    let k : IsThere (grants_of nodes) c.args.g x = there_is (grants_of nodes) c.args.g x e s u in
    ap (tree_of c.self.inside.memory) (ap grants_of made ∙ grants_done nodes c.args.g (parent_of x.line) k.some)) (c.in_ok-node.ensures).0 c.requires.sent c.requires.undone
