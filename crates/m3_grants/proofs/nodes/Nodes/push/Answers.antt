use Rattle.std.proofs.Common.{◌≡◌, ◌∙◌, ◌<◌, ◌++◌, ◌∷◌, [], length, ap, arith}
use Rattle.m3_base.specs.Ideal.State.{parent_of}
use Rattle.m3_base.specs.Setup.GrantTable.{new_node}
use Rattle.m3_grants.proofs.DueIndex.{indexed_pushed}
use Rattle.m3_grants.proofs.nodes.Nodes.push.Goals as goal

pub invariant_of-self-2 : goal.invariant_of-self-2
invariant_of-self-2 c =
    let nodes = c.self.inside.nodes.items in
    let made : c.push_reserved.new.self.items ≡ nodes ++ new_node c.args.line c.args.fresh ∷ [] = grind (arith, c.push_reserved.ensures.items, c.in_ok-reserve.ensures.items) in
    let linked : c.push.new.self ≡ c.self.inside.siblings ++ parent_of c.args.line ∷ [] = c.in_ok-push.ensures.pushed ∙ ap (λ p. c.self.inside.siblings ++ p ∷ []) c.parent.ensures in
    let few : length nodes < 4096 = omega (arith, c.requires.few, ap length c.self.view_is) in
    rw (made, linked) (indexed_pushed nodes c.self.inside.due c.self.inside.siblings c.args.line c.args.fresh c.self.invariant few)
