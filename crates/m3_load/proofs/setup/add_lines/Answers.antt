use Rattle.std.proofs.Common.{◌≡◌, ◌∷◌, [], ◌++◌, append_assoc, length, subst, sym, ap, ◌∙◌, arith}
use Rattle.std.specs.Vec.Iter.{into_iter_items}
use Rattle.m3_base.specs.Setup.Rules.{AllKept, facts_of}
use Rattle.m3_load.proofs.AddedLines.{all_added, rest_kept}
use Rattle.m3_load.proofs.setup.add_lines.Goals as goal

pub loop-line-preserved : goal.loop-line-preserved
loop-line-preserved c =
    let at = c.loop-line in
    let x = c.in-Some.line in
    let left = into_iter_items c.next.new.self in
    let steps : into_iter_items at.line-iterator ≡ x ∷ left = c.in-Some.ensures.steps.0 in
    record {
      added = all_added c.args.setup.now at.setup c.add_line.new.setup at.yielded x at.invariant.added c.in_ok-add_line.ensures;
      left = append_assoc at.yielded (x ∷ []) left ∙ ap (λ l. at.yielded ++ l) (sym steps) ∙ at.invariant.left;
      len = (let was = at.invariant.len in let gone = c.in-Some.ensures.steps.1 in let short = ap length steps in omega arith);
      kept = rest_kept at.setup c.add_line.new.setup x left c.in_ok-add_line.ensures (subst (λ ls. AllKept ls (facts_of at.setup)) steps at.invariant.kept);
    }
