use Rattle.std.proofs.Common.{◌≡◌, ◌∷◌, [], List, refl, sym, subst, ap, ◌∙◌}
use Rattle.std.specs.Option.{option_copied}
use Rattle.m3_base.specs.Ideal.Context.{Context}
use Rattle.m3_model.specs.Kernel.State.{EntryResidency, Is_placed, Is_leaving, Is_resting, Is_coming}
use Rattle.m3_kernel.specs.ActivityView as seats
use Rattle.m3_kernel.specs.ActivityView.{seat_value}
use Rattle.m3_model.specs.Abstraction as at
use Rattle.m3_model.specs.Abstraction.{option_list}
use Rattle.m3_machine.proofs.traversal.visit_context.Goals as goal

away_is : (w : EntryResidency) → at.residency_contexts w ≡ option_list (seats.context_in (seats.away_in w))
away_is Is_placed = refl
away_is Is_leaving = refl
away_is (Is_resting y) = refl
away_is (Is_coming y) = refl

pub returns-in-Some : goal.returns-in-Some
returns-in-Some g c =
    let w = (seat_value c.args.seat.now).seating in
    let it : option_list (seats.context_in (seats.away_in w)) ≡ c.in-Some.context.now ∷ [] = ap option_list (sym c.context.ensures ∙ ap option_copied c.in-Some.is) in
    subst (λ (cs : List Context). g.V.Visitor.visits cs [] c.args.visitor.now c.context-in-Some.new.self) (sym (away_is w ∙ it)) c.context-in-Some.ensures
