use Rattle.std.proofs.Common.{◌≡◌, ℕ, ◌<◌, length, Option, Some, sym, ap, ◌∙◌, subst, rules}
use Rattle.m3_bit_set.specs.BitSet.{has_place, IsFirst}
use Rattle.m3_kernel.specs.ActivityView.{seat_value}
use Rattle.m3_kernel.specs.KernelStateView.{seats_in}
use Rattle.m3_kernel.proofs.next_event.LeastHeld.{nobody_held, first_held}
use Rattle.m3_kernel.proofs.PerformSwitch.{same_seat}
use Rattle.m3_kernel.proofs.TableLookup.{within_seats}
use Rattle.m3_kernel.proofs.driver.least_tend.Goals as goal

pub returns-in_err-first : goal.returns-in_err-first
returns-in_err-first c =
    let s = c.args.state.now in
    c.from_residual.ensures ∙ sym (nobody_held (seats_in s) s.held c.requires.held (subst (λ (o : Option ℕ). IsFirst (has_place s.held) o) c.in_err-first.was c.first.ensures))

pub index-seat-requires : goal.index-seat-requires
index-seat-requires c =
    let place = c.in-Some.ensures in
    let e : c.in-Some.at < length c.args.state.now.seats.items = within_seats c.args.state.now.seats.items c.in-Some.at place.seat place.here in
    search (rules, e)

pub returns-then-can_tend : goal.returns-then-can_tend
returns-then-can_tend c =
    let s = c.args.state.now in
    let place = c.in-Some.ensures in
    let x = c.index-seat.result.now in
    let first = c.in_ok-first.first in
    let is : place.seat ≡ seat_value x = same_seat s c.in-Some.at place.seat x place.here c.index-seat.ensures in
    let here = place.here ∙ ap (λ z. Some z) is in
    let act : (seat_value x).act ≡ first = ap (λ z. z.act) (sym is) ∙ place.act in
    ap (λ n. Some n) (c.act.ensures ∙ act) ∙ sym (first_held (seats_in s) s.held c.requires.held first (subst (λ (o : Option ℕ). IsFirst (has_place s.held) o) c.in_ok-first.was c.first.ensures) c.in-Some.at (seat_value x) here act (sym c.can_tend.ensures ∙ c.if-can_tend.true))
