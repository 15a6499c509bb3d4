use Rattle.std.proofs.Common.{List, sym, subst}
use Rattle.m3_model.specs.Tile.State.{Resident}
use Rattle.m3_engine.specs.StayTable.{ArePlaces}
use Rattle.m3_engine.proofs.StayTable.{none_placed}
use Rattle.m3_engine.proofs.stays.Stays.new.Goals as goal

pub invariant_of-result : goal.invariant_of-result
invariant_of-result c =
    subst (λ (ys : List Resident). ArePlaces ys c.in_ok-places.places.items) (sym c.new.ensures.items) (none_placed c.in_ok-places.places.items c.in_ok-places.ensures)
