use Rattle.std.proofs.Common.{◌≡◌, ◌+◌, drop, length, min}
use Rattle.m3_kernel.specs.ActivityView.{seats_of}
use Rattle.m3_link.specs.LinkOps.{data_on}
use Rattle.m3_model.specs.Abstraction.{flat_map, held_by}
use Rattle.m3_machine.proofs.audit.flights.Given as goal

abbrev pub invariant-loop-seat : goal.invariant-loop-seat
invariant-loop-seat l =
    min 4294967295 (l.count + length (flat_map held_by (seats_of (drop l.seat-index l.seats)))) ≡ min 4294967295 (length (flat_map held_by (seats_of l.fn.seats)) + data_on l.fn.links.lists)
