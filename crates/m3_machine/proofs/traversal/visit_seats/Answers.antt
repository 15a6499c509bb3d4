use Rattle.std.proofs.Common.{◌+◌, drop}
use Rattle.m3_kernel.specs.ActivityView.{seat_value, seats_of}
use Rattle.m3_model.specs.Abstraction.{flat_map, entry_contexts, held_by}
use Rattle.m3_machine.proofs.TraversalSteps.{one_more, all_done, seats_more, seats_past}
use Rattle.m3_machine.proofs.traversal.visit_seats.Goals as goal

pub loop-seat-init : goal.loop-seat-init
loop-seat-init g c last k = k

pub loop-seat-preserved : goal.loop-seat-preserved
loop-seat-preserved g c =
    let seats = c.args.seats.now in
    let i = c.loop-seat.seat-index in
    let x = c.seat-item.result in
    one_more g.V.Visitor.visits c.requires.both (flat_map entry_contexts (seats_of seats)) (flat_map entry_contexts (seats_of (drop i seats))) (entry_contexts (seat_value x)) (flat_map entry_contexts (seats_of (drop (i + 1) seats)))
    (flat_map held_by (seats_of seats)) (flat_map held_by (seats_of (drop i seats))) (held_by (seat_value x)) (flat_map held_by (seats_of (drop (i + 1) seats))) c.args.visitor.now c.loop-seat.visitor c.visit_seat.new.visitor
    (seats_more entry_contexts seats i x c.loop-seat-test.true c.seat-item.is) (seats_more held_by seats i x c.loop-seat-test.true c.seat-item.is) c.loop-seat.invariant c.visit_seat.ensures

pub returns : goal.returns
returns g c =
    let seats = c.args.seats.now in
    let i = c.loop-seat.seat-index in
    all_done g.V.Visitor.visits c.requires.none (flat_map entry_contexts (seats_of seats)) (flat_map entry_contexts (seats_of (drop i seats))) (flat_map held_by (seats_of seats)) (flat_map held_by (seats_of (drop i seats))) c.args.visitor.now c.loop-seat.visitor
    (seats_past entry_contexts seats i c.loop-seat-test.false) (seats_past held_by seats i c.loop-seat-test.false) c.loop-seat.invariant
