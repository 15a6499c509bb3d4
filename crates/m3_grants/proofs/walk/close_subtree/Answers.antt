use Rattle.std.proofs.Common.{◌≡◌, ◌∙◌, ◌-◌, ◌≤◌, ◌++◌, ◌∷◌, [], length, option_to_list, ap, subst, arith}
use Rattle.m3_base.specs.Setup.GrantTable.{grants_of}
use Rattle.m3_grants.specs.NodeView.{closing_node}
use Rattle.m3_grants.specs.SubtreeWalk.{Walks}
use Rattle.m3_base.proofs.GrantTableLookup.{length_with_node}
use Rattle.m3_grants.proofs.SubtreeWalk.{walks_begun, walks_all, no_pending, live_number}
use Rattle.m3_grants.proofs.walk.close_subtree.Goals as goal

pub loop-next-init : goal.loop-next-init
loop-next-init c =
    let items : c.push_pending.new.pending.items ≡ option_to_list c.close-child.result = c.push_pending.ensures.items ∙ ap (λ p. p ++ option_to_list c.close-child.result) c.requires.none in
    let few : length c.args.nodes.now ≤ 4096 = omega (arith, c.close-child.ensures.few, ap length c.close-child.ensures.nodes, length_with_node c.args.nodes.now closing_node (c.args.g - 1)) in
    let begun : Walks c.args.g c.args.nodes.now c.close-child.new.nodes (option_to_list c.close-child.result) = walks_begun c.args.g c.args.nodes.now c.close-child.new.nodes c.close-child.result c.requires.rightful c.requires.live few c.close-child.ensures.nodes c.close-child.ensures.last in
    record { walks = rw items begun; room = c.push_pending.ensures.capacity }

pub loop-next-preserved : goal.loop-next-preserved
loop-next-preserved c =
    let now : Walks c.args.g c.args.nodes.now c.loop-next.nodes (c.pop.new.self.items ++ c.in-Some.next ∷ []) = subst (Walks c.args.g c.args.nodes.now c.loop-next.nodes) c.in-Some.ensures.items c.loop-next.invariant.walks in
    record { walks = c.visit.ensures.walks c.args.g c.args.nodes.now now; room = c.visit.ensures.capacity ∙ (c.pop.ensures.capacity ∙ c.loop-next.invariant.room) }

pub returns-clause-items : goal.returns-clause-items
returns-clause-items c =
    let none : c.loop-next.pending.items ≡ [] = no_pending c.loop-next.pending.items (omega (arith, c.in_default.ensures.cases, c.loop-next.pending.ok)) in
    walks_all c.args.g c.args.nodes.now c.loop-next.nodes (subst (Walks c.args.g c.args.nodes.now c.loop-next.nodes) none c.loop-next.invariant.walks) (live_number (grants_of c.args.nodes.now) c.args.g c.requires.live)
