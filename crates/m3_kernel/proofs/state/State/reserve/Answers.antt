use Rattle.std.proofs.Common.{sym, ap, subst, rules}
use Rattle.m3_kernel.specs.ActivityView.{HasRoom}
use Rattle.m3_kernel.specs.KernelStateView.{RoomFor}
use Rattle.m3_kernel.specs.declared.seat.Seat.{Seat as CodeSeat}
use Rattle.m3_kernel.proofs.ChangeEntry.{code_here, put_here, room_for, on_ok, tables_same_seats, kernel_same, held_now}
use Rattle.m3_kernel.proofs.state.State.reserve.Goals as goal

pub returns-in_default : goal.returns-in_default
returns-in_default c =
    let s = c.args.self.now in
    let kept = c.requires.kept in
    let at = c.args.at in
    let x = c.index_mut-seat.result.now in
    let y = c.reserve.new.self in
    let was = c.index_mut-seat.ensures.value in
    record {
      kept = record { tables = tables_same_seats s kept at x y c.requires.there was c.reserve.ensures.same; held = held_now s kept at x y c.requires.there was (ap (λ z. z.act) c.reserve.ensures.same) (ap (λ z. z.hold) c.reserve.ensures.same); memory = kept.memory };
      site = search rules;
      same = kernel_same s kept at x y c.requires.there was c.reserve.ensures.same;
      room = on_ok c.reserve.result (λ (r : HasRoom y) z e. subst (λ (u : CodeSeat). RoomFor u.seating u) (sym (put_here s.seats.items at x y z (code_here s.seats.items at x c.requires.there was) e)) (room_for y y.seating r)) c.reserve.ensures.room;
    }
