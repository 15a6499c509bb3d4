use Rattle.std.proofs.Common.{true, ◌≡◌, ◌-◌, ◌<◌, Some, subst, sym, refl, ap, ◌∙◌, arith}
use Rattle.m3_base.specs.Ideal.State.{grant_in}
use Rattle.m3_base.specs.Placement.Order.{least_closing}
use Rattle.m3_grants.specs.GrantTree.{GrantTree, with_sent, is_sent_in, is_undone_in}
use Rattle.m3_base.specs.Setup.GrantTable.{grants_of, IsTree, with_node}
use Rattle.m3_grants.specs.NodeView.{sent_node}
use Rattle.m3_grants.proofs.NodeLookup.{tree_of, grants_changed, least_due}
use Rattle.m3_grants.proofs.MarkCloseSent.{tree_sent, sent_there}
use Rattle.m3_grants.proofs.grants.Grants.sent.Goals as goal

pub invariant_of-self : goal.invariant_of-self
invariant_of-self c =
    let P : GrantTree → Type 0 = λ t. least_closing t.grants 1 t.grants ≡ Some c.args.g → IsTree (with_node c.self.inside.nodes (c.args.g - 1) sent_node) c.self.inside.held.items in
    let whole : IsTree c.mark_sent.new.nodes c.self.inside.held.items = rw c.mark_sent.ensures (subst P c.self.view_is (tree_sent c.self.inside.nodes c.self.inside.held.items c.args.g c.self.invariant.tree) c.requires) in
    record { size = c.self.invariant.size; tree = whole; none = c.self.invariant.none; spare = c.self.invariant.spare }

pub returns-clause-sent : goal.returns-clause-sent
returns-clause-sent c =
    let gs = grants_of c.self.inside.nodes in
    let Due : GrantTree → Type 0 = λ t. least_closing t.grants 1 t.grants ≡ Some c.args.g in
    let due : least_closing gs 1 gs ≡ Some c.args.g = subst Due (sym c.self.view_is) c.requires in
    let some : 0 < c.args.g = let z = (least_due gs 1 gs c.args.g due).0 in omega (arith, z) in
    let now : grants_of c.mark_sent.new.nodes ≡ with_sent gs c.args.g = ap grants_of c.mark_sent.ensures ∙ grants_changed c.self.inside.nodes sent_node (λ x. record x { close_sent = true }) c.args.g some (λ x. refl) in
    let P : GrantTree → Type 0 = λ t. tree_of c.self.inside.memory (grants_of c.mark_sent.new.nodes) ≡ tree_of t.memory (with_sent t.grants c.args.g) in
    subst P c.self.view_is (ap (tree_of c.self.inside.memory) now)

pub returns-clause-awaits_closed : goal.returns-clause-awaits_closed
returns-clause-awaits_closed c =
    let gs = grants_of c.self.inside.nodes in
    let Due : GrantTree → Type 0 = λ t. least_closing t.grants 1 t.grants ≡ Some c.args.g in
    let due : least_closing gs 1 gs ≡ Some c.args.g = subst Due (sym c.self.view_is) c.requires in
    let some : 0 < c.args.g = let z = (least_due gs 1 gs c.args.g due).0 in omega (arith, z) in
    let now : grants_of c.mark_sent.new.nodes ≡ with_sent gs c.args.g = ap grants_of c.mark_sent.ensures ∙ grants_changed c.self.inside.nodes sent_node (λ x. record x { close_sent = true }) c.args.g some (λ x. refl) in
    subst (λ hs. is_sent_in (grant_in hs c.args.g) ≡ true) (sym now) (sent_there gs c.args.g due).0

pub returns-clause-undone : goal.returns-clause-undone
returns-clause-undone c =
    let gs = grants_of c.self.inside.nodes in
    let Due : GrantTree → Type 0 = λ t. least_closing t.grants 1 t.grants ≡ Some c.args.g in
    let due : least_closing gs 1 gs ≡ Some c.args.g = subst Due (sym c.self.view_is) c.requires in
    let some : 0 < c.args.g = let z = (least_due gs 1 gs c.args.g due).0 in omega (arith, z) in
    let now : grants_of c.mark_sent.new.nodes ≡ with_sent gs c.args.g = ap grants_of c.mark_sent.ensures ∙ grants_changed c.self.inside.nodes sent_node (λ x. record x { close_sent = true }) c.args.g some (λ x. refl) in
    subst (λ hs. is_undone_in (grant_in hs c.args.g) ≡ true) (sym now) (sent_there gs c.args.g due).1
