use Rattle.std.proofs.Common.{◌≡◌, ◌+◌, ◌∙◌, ap, drop, length, length-append, arith}
use Rattle.m3_kernel.specs.ActivityView.{seat_value, seats_of}
use Rattle.m3_model.specs.Abstraction.{flat_map, held_by}
use Rattle.m3_machine.proofs.TraversalSteps.{seats_more}
use Rattle.m3_machine.proofs.audit.flights.Goals as goal

pub loop-seat-preserved : goal.loop-seat-preserved
loop-seat-preserved c =
    let seats = c.args.seats.now in
    let i = c.loop-seat.seat-index in
    let x = c.seat-item.result in
    let rest = flat_map held_by (seats_of (drop (i + 1) seats)) in
    let more : length (flat_map held_by (seats_of (drop i seats))) ≡ length (held_by (seat_value x)) + length rest =
    ap length (seats_more held_by seats i x c.loop-seat-test.true c.seat-item.is) ∙ length-append (held_by (seat_value x)) rest in
    let count : c.held.result ≡ length (held_by (seat_value x)) = c.held.ensures in
    let old = c.loop-seat.invariant in
    let added = c.saturating_add-count.ensures in
    omega arith
