-- Where the driver's run is after each step of a machine, and the orders that are left.
use Rattle.std.proofs.Common.{◌≡◌, List, [], ◌∷◌, ◌++◌, Some, refl, ap, ◌∙◌}
use Rattle.m3_base.specs.declared.event.Event.{Event}
use Rattle.m3_base.specs.declared.event.Entry.{Entry}
use Rattle.m3_base.specs.declared.event.Outcome.{Outcome}
use Rattle.m3_base.specs.declared.order.Order.{Order}
use Rattle.m3_base.specs.DriverRun.Choices.{AreChoices, choice}
use Rattle.m3_base.specs.DriverRun.Configuration.{Configuration, configuration_after, last_configuration, orders_after, places_after}
use Rattle.m3_base.specs.Ideal.State.{State}
use Rattle.m3_base.specs.Lists.EachElement.{Each}
use Rattle.m3_base.specs.Placement.EntryStep.{PlacementMoves}
use Rattle.m3_base.specs.Placement.State.{Placement}
use Rattle.m3_base.specs.Placement.Step.{placement_step}
use Rattle.m3_model.specs.Config.Site.{Site}
use Rattle.m3_model.specs.Events.{SuitsPrograms}

-- the places move by the step, at any event but one on files
pub places_move : (h : Site) (s : State) (p : Placement) (e : Event) (o : Outcome) (next : Placement) → SuitsPrograms h e → PlacementMoves s p e o next → places_after p (placement_step s p e o.made) ≡ next
places_move h s p (Event.Do a c) o next suits k = ap (places_after p) k.1 ∙ k.2.places
places_move h s p (Event.Turn a) o next suits k = ap (places_after p) k.1 ∙ k.2.places
places_move h s p (Event.Take to from) o next suits k = ap (places_after p) k.1 ∙ k.2.places
places_move h s p (Event.Tend a) o next suits k = ap (places_after p) k.1 ∙ k.2.places
places_move h s p Event.Close o next suits k = ap (places_after p) k.1 ∙ k.2.places
places_move h s p (Event.Order order) o next suits k = ap (places_after p) k.1 ∙ k.2.places
places_move h s p (Event.File line) o next suits k = absurd suits

-- one more entry
pub last_more : (c : Configuration) (es : List Entry) (e : Entry) → last_configuration c (es ++ e ∷ []) ≡ configuration_after (last_configuration c es) e
last_more c [] e = refl
last_more c (x ∷ es) e = last_more (configuration_after c x) es e

pub choices_more : (c : Configuration) (es : List Entry) (e : Entry) → AreChoices c es → choice (last_configuration c es) ≡ Some e.event → AreChoices c (es ++ e ∷ [])
choices_more c [] e k next = (next, tt)
choices_more c (x ∷ es) e k next = (k.0, choices_more (configuration_after c x) es e k.1 next)

-- what holds of all holds of those that are left
pub each_after : (Q : Order → Type 0) (left : List Order) (e : Event) → Each Q left → Each Q (orders_after left e)
each_after Q [] e k = tt
each_after Q (x ∷ xs) (Event.Order o) k = k.1
each_after Q (x ∷ xs) (Event.Do a c) k = k
each_after Q (x ∷ xs) (Event.Turn a) k = k
each_after Q (x ∷ xs) (Event.Take to from) k = k
each_after Q (x ∷ xs) (Event.Tend a) k = k
each_after Q (x ∷ xs) Event.Close k = k
each_after Q (x ∷ xs) (Event.File line) k = k
