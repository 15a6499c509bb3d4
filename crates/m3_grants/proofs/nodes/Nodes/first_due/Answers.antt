use Rattle.std.proofs.Common.{◌≡◌, ◌∙◌, ◌+◌, Some, None, ap, arith}
use Rattle.m3_grants.specs.NodeView.{first_due}
use Rattle.m3_grants.proofs.DueIndex.{first_is_none, first_is_some, first_within}
use Rattle.m3_grants.proofs.nodes.Nodes.first_due.Goals as goal

pub returns-in_err-at : goal.returns-in_err-at
returns-in_err-at c =
    let is : None ≡ first_due 1 c.self.inside.nodes.items = first_is_none c.self.inside.nodes.items c.self.inside.due c.self.inside.siblings c.self.invariant c.in_err-at.ensures in
    c.from_residual.ensures ∙ (is ∙ ap (first_due 1) c.self.view_is)

pub overflow_cast-at : goal.overflow_cast-at
overflow_cast-at c = let h = first_within c.self.inside.nodes.items c.self.inside.due c.self.inside.siblings c.in_ok-at.at c.self.invariant c.in_ok-at.ensures in omega (arith, h)

pub overflow_add-at : goal.overflow_add-at
overflow_add-at c = let h = first_within c.self.inside.nodes.items c.self.inside.due c.self.inside.siblings c.in_ok-at.at c.self.invariant c.in_ok-at.ensures in omega (arith, h)

pub new-requires-clause-limit : goal.new-requires-clause-limit
new-requires-clause-limit c = let h = first_within c.self.inside.nodes.items c.self.inside.due c.self.inside.siblings c.in_ok-at.at c.self.invariant c.in_ok-at.ensures in omega (arith, h)

pub returns : goal.returns
returns c =
    let is : Some (c.in_ok-at.at + 1) ≡ first_due 1 c.self.inside.nodes.items = first_is_some c.self.inside.nodes.items c.self.inside.due c.self.inside.siblings c.in_ok-at.at c.self.invariant c.in_ok-at.ensures in
    ap Some c.new.ensures ∙ (is ∙ ap (first_due 1) c.self.view_is)
