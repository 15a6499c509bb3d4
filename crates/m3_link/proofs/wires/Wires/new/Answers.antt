use Rattle.std.proofs.Common.{List, Bool, false, length, map, ap, ◌∙◌, sym, subst}
use Rattle.std.proofs.lemmas.List.{length-replicate}
use Rattle.m3_core.specs.declared.parcel.Parcel.{Parcel}
use Rattle.m3_link.specs.LinksView.{spare_in, AreRoomy, IsOccupancy}
use Rattle.m3_link.proofs.Occupancy.{none_occupied}
use Rattle.m3_link.proofs.Room.{none_marked}
use Rattle.m3_link.proofs.wires.Wires.new.Goals as goal

pub invariant_of-result : goal.invariant_of-result
invariant_of-result c =
    record {
      count = c.in_ok-links.ensures.full;
      tiles = ap length c.in_ok-roomy.ensures ∙ length-replicate 16 false;
      roomy = subst (λ (marks : List Bool). AreRoomy marks (map spare_in c.in_ok-links.links.items)) (sym c.in_ok-roomy.ensures) (none_marked (map spare_in c.in_ok-links.links.items));
      occupancy =
          subst (λ (ls : List (List Parcel)). IsOccupancy ls c.in_ok-occupancy.occupancy) (sym c.in_ok-links.ensures.links) (none_occupied c.in_ok-occupancy.occupancy c.in_ok-occupancy.ensures);
    }
