-- The steps of places: what an entry does to them.
use Rattle.std.specs.Prelude.{◌≡◌, true, Some}
use Rattle.m3_base.specs.declared.event.Event.{Event}
use Rattle.m3_base.specs.declared.event.Outcome.{Outcome}
use Rattle.m3_base.specs.declared.event.Entry.{Entry}
use Rattle.m3_base.specs.Journal.OutcomeForms.{is_allowed_outcome}
use Rattle.m3_base.specs.Ideal.State.{State}
use Rattle.m3_base.specs.Placement.State.{Placement}
use Rattle.m3_base.specs.Placement.Landing.{PlacementResult}
use Rattle.m3_base.specs.Placement.Step.{placement_step}

-- the places allow this outcome, and are then these
pub record Allows (d : PlacementResult) (o : Outcome) (next : Placement) : Type 0 where
  pub said : d.said ≡ o.said
  pub restore : d.restore ≡ o.restore
  pub places : d.places ≡ next

abbrev pub PlacementMoves : State → Placement → Event → Outcome → Placement → Type 0
-- a line on files changes no place
PlacementMoves s p (Event.File line) o next = next ≡ p
PlacementMoves s p e o next = (d : PlacementResult) × (placement_step s p e o.made ≡ Some d) × Allows d o next

-- s: the ideal state before the entry
pub record IsPlacementStep (s : State) (p : Placement) (e : Entry) (next : Placement) : Type 0 where
  pub form : is_allowed_outcome e.event e.outcome ≡ true
  pub moves : PlacementMoves s p e.event e.outcome next
