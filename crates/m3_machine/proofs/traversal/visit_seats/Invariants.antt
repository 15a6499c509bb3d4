use Rattle.std.proofs.Common.{drop}
use Rattle.m3_kernel.specs.ActivityView.{seats_of}
use Rattle.m3_model.specs.Abstraction.{flat_map, entry_contexts, held_by}
use Rattle.m3_machine.proofs.TraversalSteps.{LeftOf}
use Rattle.m3_machine.proofs.traversal.visit_seats.Given as goal

abbrev pub invariant-loop-seat : goal.invariant-loop-seat
invariant-loop-seat g l =
    LeftOf g.V.Visitor.visits (flat_map entry_contexts (seats_of l.seats)) (flat_map held_by (seats_of l.seats)) (flat_map entry_contexts (seats_of (drop l.seat-index l.seats))) (flat_map held_by (seats_of (drop l.seat-index l.seats))) l.fn.visitor l.visitor
