use Rattle.std.proofs.Common.{◌≡◌, drop}
use Rattle.m3_kernel.specs.ActivityView.{seats_of}
use Rattle.m3_model.specs.Kernel.Driver.{least_tend}
use Rattle.m3_kernel.proofs.next_event.LeastTend.{with_left}
use Rattle.m3_kernel.proofs.driver.least_of_all.Given as goal

abbrev pub invariant-loop-seat : goal.invariant-loop-seat
invariant-loop-seat l = least_tend (seats_of l.fn.seats) ≡ with_left l.least (least_tend (seats_of (drop l.seat-index l.fn.seats)))
