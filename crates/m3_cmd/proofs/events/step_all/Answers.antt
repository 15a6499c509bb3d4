use Rattle.std.proofs.Common.{◌≡◌, [], ◌∷◌, ◌++◌, append_assoc, length, subst, sym, ap, ◌∙◌, arith}
use Rattle.std.specs.Vec.Iter.{into_iter_items}
use Rattle.m3_cmd.specs.ListMachines.{AreMakeable}
use Rattle.m3_cmd.proofs.JournalFollowsScript.{one_made, others_of}
use Rattle.m3_cmd.proofs.events.step_all.Goals as goal

pub loop-event-preserved : goal.loop-event-preserved
loop-event-preserved c =
    let at = c.loop-event in
    let x = c.in-Some.event in
    let left = into_iter_items c.next.new.self in
    let steps : into_iter_items at.event-iterator ≡ x ∷ left = c.in-Some.ensures.steps.0 in (
      append_assoc at.yielded (x ∷ []) left ∙ ap (λ l. at.yielded ++ l) (sym steps) ∙ at.invariant.0,
      (let was = at.invariant.1 in let gone = c.in-Some.ensures.steps.1 in let short = ap length steps in omega arith),
      one_made _ _ _ at.yielded x at.invariant.2 c.in_ok-step.ensures.ok,
      others_of c.args.machine.now.setup x left (subst (AreMakeable c.args.machine.now.setup) steps at.invariant.3),
    )
