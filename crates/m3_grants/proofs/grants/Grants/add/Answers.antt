use Rattle.std.proofs.Common.{arith, ◌+◌, ◌*◌, ◌<◌, ◌≡◌, ◌∷◌, ◌++◌, [], Some, None, length, true, set, subst, sym, ◌∙◌, ap}
use Rattle.m3_base.specs.Ideal.State.{parent_in, parent_of, holder, holder_ep, undone}
use Rattle.m3_base.specs.Ideal.GrantRules.{make_refusal, form}
use Rattle.m3_base.specs.Setup.GrantTable.{above, with_made, IsTree, new_node, grants_of, grant_of, under_parent, has_room_under, StandsAbove, with_child_more}
use Rattle.m3_base.specs.Setup.Rules.{with_grant}
use Rattle.m3_base.proofs.GrantRefusal.{above_is}
use Rattle.m3_base.proofs.GrantTableLookup.{length_grants}
use Rattle.m3_base.proofs.GrantTableGrow.{tree_made, grants_made, made_is, before_made, room_under, room_pushed, allowed, Allowed}
use Rattle.m3_grants.specs.GrantTree.{GrantTree}
use Rattle.m3_grants.proofs.NodeLookup.{tree_of}
use Rattle.m3_grants.proofs.grants.Grants.add.Goals as goal

pub add_child-requires : goal.add_child-requires
add_child-requires c =
    let nodes = c.self.inside.nodes in
    let gs = grants_of nodes in
    let line = c.args.line in
    let P : GrantTree → Type 0 = λ t. make_refusal t.memory t.grants line ≡ None in
    let allowed_here : make_refusal c.self.inside.memory gs line ≡ None = subst P (sym c.self.view_is) c.requires.allowed in
    let known : Allowed c.self.inside.memory gs line (above gs line) = allowed c.self.inside.memory gs line allowed_here in
    rw c.parent-2.ensures (subst (λ ns. has_room_under ns (parent_of line) ≡ true) (sym c.in_ok-push.ensures.pushed) (room_pushed nodes line c.in-Some.fresh (parent_of line) (room_under nodes (parent_of line) known.few c.self.invariant.tree.children)))

pub push-requires-clause-before : goal.push-requires-clause-before
push-requires-clause-before c =
    let nodes = c.self.inside.nodes in
    let gs = grants_of nodes in
    let line = c.args.line in
    let P : GrantTree → Type 0 = λ t. make_refusal t.memory t.grants line ≡ None in
    let allowed_here : make_refusal c.self.inside.memory gs line ≡ None = subst P (sym c.self.view_is) c.requires.allowed in
    let at : StandsAbove gs (parent_of line) (above gs line) c.above_node-above.result = subst (λ p. StandsAbove gs p (undone (parent_in gs p)) c.above_node-above.result) c.parent.ensures (subst (λ ns. StandsAbove (grants_of ns) c.parent.result (undone (parent_in (grants_of ns) c.parent.result)) c.above_node-above.result) c.as_slice.ensures c.above_node-above.ensures) in
    let found : above gs line ≡ grant_of c.above_node-above.result = above_is gs (parent_of line) (above gs line) c.above_node-above.result at in
    let number : c.new-grant.result ≡ length gs + 1 = grind (arith, c.new-grant.ensures, c.len.ensures, length_grants nodes) in
    let form_is : form (length gs + 1) line (above gs line) ≡ Some c.in-Some.fresh = ap (form (length gs + 1) line) found ∙ (ap (λ n. form n line (grant_of c.above_node-above.result)) (sym number) ∙ (sym c.grant_record.ensures ∙ c.in-Some.is)) in
    before_made c.self.inside.memory nodes line c.in-Some.fresh allowed_here form_is

pub invariant_of-self-2 : goal.invariant_of-self-2
invariant_of-self-2 c =
    let nodes = c.self.inside.nodes in
    let gs = grants_of nodes in
    let line = c.args.line in
    let P : GrantTree → Type 0 = λ t. make_refusal t.memory t.grants line ≡ None in
    let allowed_here : make_refusal c.self.inside.memory gs line ≡ None = subst P (sym c.self.view_is) c.requires.allowed in
    let at : StandsAbove gs (parent_of line) (above gs line) c.above_node-above.result = subst (λ p. StandsAbove gs p (undone (parent_in gs p)) c.above_node-above.result) c.parent.ensures (subst (λ ns. StandsAbove (grants_of ns) c.parent.result (undone (parent_in (grants_of ns) c.parent.result)) c.above_node-above.result) c.as_slice.ensures c.above_node-above.ensures) in
    let found : above gs line ≡ grant_of c.above_node-above.result = above_is gs (parent_of line) (above gs line) c.above_node-above.result at in
    let number : c.new-grant.result ≡ length gs + 1 = grind (arith, c.new-grant.ensures, c.len.ensures, length_grants nodes) in
    let form_is : form (length gs + 1) line (above gs line) ≡ Some c.in-Some.fresh = ap (form (length gs + 1) line) found ∙ (ap (λ n. form n line (grant_of c.above_node-above.result)) (sym number) ∙ (sym c.grant_record.ensures ∙ c.in-Some.is)) in
    let plain : c.add_child.new.nodes ≡ under_parent (nodes ++ new_node line c.in-Some.fresh ∷ []) (parent_of line) with_child_more = grind (arith, c.add_child.ensures, c.in_ok-push.ensures.pushed, c.parent-2.ensures) in
    let made : c.add_child.new.nodes ≡ under_parent nodes (parent_of line) with_child_more ++ new_node line c.in-Some.fresh ∷ [] = plain ∙ made_is c.self.inside.memory nodes line c.in-Some.fresh allowed_here form_is in
    let at_is : c.endpoint_index-at.result ≡ 16 * holder line + holder_ep line = grind (arith, c.endpoint_index-at.ensures.at, c.act.ensures, c.ep.ensures) in
    let act : holder line < 64 = grind (arith, c.endpoint_index-at.ensures.act, c.act.ensures) in
    let ep : holder_ep line < 16 = grind (arith, c.endpoint_index-at.ensures.ep, c.ep.ensures) in
    let tree : IsTree c.add_child.new.nodes (set c.self.inside.held.items c.endpoint_index-at.result (Some c.new-grant.result)) = rw (made, at_is, number) (tree_made c.self.inside.memory nodes c.self.inside.held.items line c.in-Some.fresh c.self.invariant.size c.self.invariant.tree allowed_here act ep form_is) in
    record { size = c.self.invariant.size; tree = tree; none = c.self.invariant.none; spare = c.self.invariant.spare }

pub returns-clause-made : goal.returns-clause-made
returns-clause-made c =
    let nodes = c.self.inside.nodes in
    let gs = grants_of nodes in
    let line = c.args.line in
    let P : GrantTree → Type 0 = λ t. make_refusal t.memory t.grants line ≡ None in
    let allowed_here : make_refusal c.self.inside.memory gs line ≡ None = subst P (sym c.self.view_is) c.requires.allowed in
    let at : StandsAbove gs (parent_of line) (above gs line) c.above_node-above.result = subst (λ p. StandsAbove gs p (undone (parent_in gs p)) c.above_node-above.result) c.parent.ensures (subst (λ ns. StandsAbove (grants_of ns) c.parent.result (undone (parent_in (grants_of ns) c.parent.result)) c.above_node-above.result) c.as_slice.ensures c.above_node-above.ensures) in
    let found : above gs line ≡ grant_of c.above_node-above.result = above_is gs (parent_of line) (above gs line) c.above_node-above.result at in
    let number : c.new-grant.result ≡ length gs + 1 = grind (arith, c.new-grant.ensures, c.len.ensures, length_grants nodes) in
    let form_is : form (length gs + 1) line (above gs line) ≡ Some c.in-Some.fresh = ap (form (length gs + 1) line) found ∙ (ap (λ n. form n line (grant_of c.above_node-above.result)) (sym number) ∙ (sym c.grant_record.ensures ∙ c.in-Some.is)) in
    let plain : c.add_child.new.nodes ≡ under_parent (nodes ++ new_node line c.in-Some.fresh ∷ []) (parent_of line) with_child_more = grind (arith, c.add_child.ensures, c.in_ok-push.ensures.pushed, c.parent-2.ensures) in
    let made : c.add_child.new.nodes ≡ under_parent nodes (parent_of line) with_child_more ++ new_node line c.in-Some.fresh ∷ [] = plain ∙ made_is c.self.inside.memory nodes line c.in-Some.fresh allowed_here form_is in
    let Q : GrantTree → Type 0 = λ t. tree_of c.self.inside.memory (grants_of c.add_child.new.nodes) ≡ tree_of t.memory (with_made line t.grants) in
    subst Q c.self.view_is (ap (tree_of c.self.inside.memory) (ap grants_of made ∙ (grants_made nodes line c.in-Some.fresh ∙ ap (with_grant line gs) (sym form_is))))
