-- What the kernel's readers give.
use Rattle.std.specs.Prelude.{◌≡◌, Bool, List, [], Option, Some, None, is_some}
use Rattle.m3_base.specs.declared.packet.Packet.{Packet}
use Rattle.m3_base.specs.Ideal.Context.{Context}
use Rattle.m3_model.specs.Kernel.State.{ActivityEntry}
use Rattle.m3_kernel.specs.ActivityView.{seat_value, away_in, context_in}
use Rattle.m3_kernel.specs.declared.seat.Seat.{Seat as CodeSeat}

abbrev pub is_seated : Option ActivityEntry → Bool
is_seated = is_some

abbrev pub hold_in : Option ActivityEntry → List Packet
hold_in None = []
hold_in (Some x) = x.hold

abbrev pub context_of_seat : Option ActivityEntry → Option Context
context_of_seat None = None
context_of_seat (Some x) = context_in (away_in x.seating)

-- the code's seat, where there is one
abbrev pub SeatIs : Option ActivityEntry → Option CodeSeat → Type 0
SeatIs x None = x ≡ None
SeatIs x (Some y) = x ≡ Some (seat_value y)
