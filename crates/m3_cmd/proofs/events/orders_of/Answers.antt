use Rattle.std.proofs.Common.{◌≡◌, ◌∷◌, [], ◌++◌, append_assoc, length, map, subst, sym, ap, ◌∙◌, arith}
use Rattle.std.specs.List.{All}
use Rattle.std.specs.Vec.Iter.{into_iter_items}
use Rattle.std.proofs.lemmas.List.{map-append}
use Rattle.std.proofs.lemmas.List.Elements.{All-tail}
use Rattle.m3_base.specs.declared.event.Event.{Event}
use Rattle.m3_script.specs.Rules.{IsOrder}
use Rattle.m3_cmd.proofs.events.orders_of.Goals as goal

pub loop-event-preserved : goal.loop-event-preserved
loop-event-preserved c =
    let at = c.loop-event in
    let x = c.in-Some.event in
    let left = into_iter_items c.next.new.self in
    let steps : into_iter_items at.event-iterator ≡ x ∷ left = c.in-Some.ensures.steps.0 in
    record {
      are =
          ap (map Event.Order) c.in_ok-push-in-Order.ensures.items ∙ map-append Event.Order at.orders.items (c.in-Order.order ∷ [])
          ∙ ap (λ es. es ++ Event.Order c.in-Order.order ∷ []) at.invariant.are ∙ ap (λ e. at.yielded ++ e ∷ []) (sym c.in-Order.is);
      left = append_assoc at.yielded (x ∷ []) left ∙ ap (λ l. at.yielded ++ l) (sym steps) ∙ at.invariant.left;
      len = (let was = at.invariant.len in let gone = c.in-Some.ensures.steps.1 in let short = ap length steps in omega arith);
      all = All-tail IsOrder x left (subst (All IsOrder) steps at.invariant.all);
    }
