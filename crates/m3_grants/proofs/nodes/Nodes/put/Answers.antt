use Rattle.std.proofs.Common.{◌≡◌, ◌∙◌, ◌-◌, true, false, sym, subst}
use Rattle.std.specs.Prelude.{slice_get}
use Rattle.m3_base.specs.Ideal.State.{parent_of}
use Rattle.m3_grants.specs.NodeView.{is_due}
use Rattle.m3_grants.specs.DueIndexView.{HasParent}
use Rattle.m3_grants.proofs.DueIndex.{indexed_due, indexed_later}
use Rattle.m3_grants.proofs.nodes.Nodes.put.Goals as goal

pub invariant_of-self : goal.invariant_of-self
invariant_of-self c =
    let nodes = c.self.inside.nodes.items in
    let due : is_due c.args.node ≡ true = sym c.is_due-due.ensures ∙ c.if-due.true in
    let there : HasParent (parent_of c.args.node.line) (slice_get nodes (c.number.result - 1)) = rw c.number.ensures.same (subst (λ ns. HasParent (parent_of c.args.node.line) (slice_get ns (c.args.g - 1))) (sym c.self.view_is) c.requires) in
    indexed_due nodes c.self.inside.due c.insert.new.self c.self.inside.siblings (c.number.result - 1) c.args.node c.self.invariant there due c.insert.ensures

pub invariant_of-self-else-due : goal.invariant_of-self-else-due
invariant_of-self-else-due c =
    let nodes = c.self.inside.nodes.items in
    let later : is_due c.args.node ≡ false = sym c.is_due-due.ensures ∙ c.if-due.false in
    let there : HasParent (parent_of c.args.node.line) (slice_get nodes (c.number.result - 1)) = rw c.number.ensures.same (subst (λ ns. HasParent (parent_of c.args.node.line) (slice_get ns (c.args.g - 1))) (sym c.self.view_is) c.requires) in
    indexed_later nodes c.self.inside.due c.remove.new.self c.self.inside.siblings (c.number.result - 1) c.args.node c.self.invariant there later c.remove.ensures
