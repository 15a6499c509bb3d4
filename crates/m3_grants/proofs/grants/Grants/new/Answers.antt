use Rattle.std.proofs.Common.{◌≡◌, ◌+◌, drop, subst, ap, ◌∙◌, ◌∷◌, []}
use Rattle.std.proofs.lemmas.List.{drop_all}
use Rattle.m3_grants.proofs.NodeLookup.{tree_of}
use Rattle.m3_grants.proofs.FromSetup.{SoFar, so_far_none, so_far_next, so_far_all, drop_next}
use Rattle.m3_grants.proofs.grants.Grants.new.Goals as goal

pub loop-line-init : goal.loop-line-init
loop-line-init c =
    let start : c.in_ok-grants.grants ≡ tree_of c.args.setup.now.memory [] = c.in_ok-grants.ensures ∙ ap (λ m. tree_of m []) c.memory.ensures in
    so_far_none c.args.setup.now c.in_ok-grants.grants c.lines-lines.result.now start c.lines-lines.ensures.lines

pub loop-line-preserved : goal.loop-line-preserved
loop-line-preserved c =
    let is : drop c.loop-line.line-index c.lines-lines.result.now ≡ c.line-item.result ∷ drop (c.loop-line.line-index + 1) c.lines-lines.result.now = drop_next c.lines-lines.result.now c.loop-line.line-index c.line-item.result c.loop-line-test.true c.line-item.is in
    so_far_next c.args.setup.now c.loop-line.grants c.read.new.self c.line-item.result (drop (c.loop-line.line-index + 1) c.lines-lines.result.now) (subst (SoFar c.args.setup.now c.loop-line.grants) is c.loop-line.invariant) c.in_ok-read.ensures

pub returns : goal.returns
returns c =
    let none : drop c.loop-line.line-index c.lines-lines.result.now ≡ [] = drop_all c.loop-line.line-index c.lines-lines.result.now c.loop-line-test.false in
    so_far_all c.args.setup.now c.loop-line.grants (drop c.loop-line.line-index c.lines-lines.result.now) none c.loop-line.invariant
