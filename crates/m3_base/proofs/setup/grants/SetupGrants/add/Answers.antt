use Rattle.std.proofs.Common.{arith, ◌+◌, ◌*◌, ◌<◌, ◌≡◌, ◌∷◌, ◌++◌, [], Some, None, length, subst, sym, ◌∙◌, ap}
use Rattle.m3_base.specs.Ideal.State.{parent_in, parent_of, holder, holder_ep, undone}
use Rattle.m3_base.specs.Ideal.GrantRules.{make_refusal, form}
use Rattle.m3_base.specs.Setup.GrantTable.{grants_of, grant_of, above, StandsAbove, under_parent, new_node, with_child_more}
use Rattle.m3_base.specs.Setup.Rules.{grant_added}
use Rattle.m3_base.proofs.GrantTableLookup.{length_grants}
use Rattle.m3_base.proofs.GrantRefusal.{above_is}
use Rattle.m3_base.proofs.GrantTableGrow.{Allowed, allowed, room_under}
use Rattle.m3_base.proofs.SetupGrants.{setup_table_made, setup_grants_made}
use Rattle.m3_base.proofs.setup.grants.SetupGrants.add.Goals as goal

pub add_child-requires : goal.add_child-requires
add_child-requires c =
    let nodes = c.self.inside.nodes.items in
    let gs = grants_of nodes in
    let line = c.args.line in
    let allowed_here : make_refusal c.args.memory gs line ≡ None = rw c.self.view_is c.requires.allowed in
    let known : Allowed c.args.memory gs line (above gs line) = allowed c.args.memory gs line allowed_here in
    rw (c.parent-2.ensures, c.reserve.ensures.items) (room_under nodes (parent_of line) known.few c.self.invariant.tree.children)

pub invariant_of-self-2 : goal.invariant_of-self-2
invariant_of-self-2 c =
    let nodes = c.self.inside.nodes.items in
    let gs = grants_of nodes in
    let line = c.args.line in
    let allowed_here : make_refusal c.args.memory gs line ≡ None = rw c.self.view_is c.requires.allowed in
    let at : StandsAbove gs (parent_of line) (above gs line) c.above_node-above.result = subst (λ p. StandsAbove gs p (undone (parent_in gs p)) c.above_node-above.result) c.parent.ensures (subst (λ ns. StandsAbove (grants_of ns) c.parent.result (undone (parent_in (grants_of ns) c.parent.result)) c.above_node-above.result) c.as_slice.ensures.value c.above_node-above.ensures) in
    let found : above gs line ≡ grant_of c.above_node-above.result = above_is gs (parent_of line) (above gs line) c.above_node-above.result at in
    let number : c.new-grant.result ≡ length gs + 1 = grind (arith, c.new-grant.ensures, c.len.ensures, length_grants nodes) in
    let form_is : form (length gs + 1) line (above gs line) ≡ Some c.in-Some.fresh = ap (form (length gs + 1) line) found ∙ (ap (λ n. form n line (grant_of c.above_node-above.result)) (sym number) ∙ (sym c.grant_record.ensures ∙ c.in-Some.is)) in
    let made : c.push_reserved.new.self.items ≡ under_parent nodes (parent_of line) with_child_more ++ new_node line c.in-Some.fresh ∷ [] = grind (arith, c.push_reserved.ensures.items, c.add_child.ensures.items, c.reserve.ensures.items, c.parent-2.ensures) in
    let at_is : c.endpoint_index-at.result ≡ 16 * holder line + holder_ep line = grind (arith, c.endpoint_index-at.ensures.at, c.act.ensures, c.ep.ensures) in
    let act : holder line < 64 = grind (arith, c.endpoint_index-at.ensures.act, c.act.ensures) in
    let ep : holder_ep line < 16 = grind (arith, c.endpoint_index-at.ensures.ep, c.ep.ensures) in
    rw (made, at_is, number) (setup_table_made c.args.memory nodes c.self.inside.held.items line c.in-Some.fresh c.requires.size c.self.invariant allowed_here act ep form_is)

pub returns-clause-added : goal.returns-clause-added
returns-clause-added c =
    let nodes = c.self.inside.nodes.items in
    let gs = grants_of nodes in
    let line = c.args.line in
    let allowed_here : make_refusal c.args.memory gs line ≡ None = rw c.self.view_is c.requires.allowed in
    let at : StandsAbove gs (parent_of line) (above gs line) c.above_node-above.result = subst (λ p. StandsAbove gs p (undone (parent_in gs p)) c.above_node-above.result) c.parent.ensures (subst (λ ns. StandsAbove (grants_of ns) c.parent.result (undone (parent_in (grants_of ns) c.parent.result)) c.above_node-above.result) c.as_slice.ensures.value c.above_node-above.ensures) in
    let found : above gs line ≡ grant_of c.above_node-above.result = above_is gs (parent_of line) (above gs line) c.above_node-above.result at in
    let number : c.new-grant.result ≡ length gs + 1 = grind (arith, c.new-grant.ensures, c.len.ensures, length_grants nodes) in
    let form_is : form (length gs + 1) line (above gs line) ≡ Some c.in-Some.fresh = ap (form (length gs + 1) line) found ∙ (ap (λ n. form n line (grant_of c.above_node-above.result)) (sym number) ∙ (sym c.grant_record.ensures ∙ c.in-Some.is)) in
    let made : c.push_reserved.new.self.items ≡ under_parent nodes (parent_of line) with_child_more ++ new_node line c.in-Some.fresh ∷ [] = grind (arith, c.push_reserved.ensures.items, c.add_child.ensures.items, c.reserve.ensures.items, c.parent-2.ensures) in
    ap grants_of made ∙ (setup_grants_made nodes line c.in-Some.fresh c.self.invariant.live form_is ∙ ap (grant_added line) c.self.view_is)
