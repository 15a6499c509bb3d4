-- What an event of the machine is to the ideal machine and to the places.
use Rattle.std.specs.Prelude.{◌≡◌, Option, Some, None}
use Rattle.m3_base.specs.declared.event.Event.{Event}
use Rattle.m3_base.specs.declared.event.Made.{Made}
use Rattle.m3_base.specs.Placement.Step.{placement_step}
use Rattle.m3_base.specs.Placement.Landing as places_landing
use Rattle.m3_model.specs.Config.Site.{Site}
use Rattle.m3_model.specs.Machine.{Machine, MachineResult}
use Rattle.m3_model.specs.Abstraction.{ideal_of, placement_of}
use Rattle.m3_model.specs.Invariant.Structure.{MachineStructure}

-- what the machine did, with the ideal state and the places that it is then
abbrev pub placement_result : Site → MachineResult → places_landing.PlacementResult
placement_result h d =
    record { said = d.outcome.said; restore = d.outcome.restore; state = ideal_of d.machine; places = placement_of h d.machine }

-- the ideal machine and the places do the same, and the machine stays sound
abbrev pub Refines : Site → Machine → Event → Option Made → Option MachineResult → Type 0
Refines h m e made None = Unit {0}
Refines h m e made (Some d) =
    (placement_step (ideal_of m) (placement_of h m) e made ≡ Some (placement_result h d)) × MachineStructure h d.machine
