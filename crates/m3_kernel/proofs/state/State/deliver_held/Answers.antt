use Rattle.std.specs.Prelude.{◌==◌, ◌&&◌, not}
use Rattle.m3_bit_set.specs.BitSet.{has_place}
use Rattle.m3_kernel.proofs.PerformSwitch.{same_seat}
use Rattle.std.proofs.Common.{◌≡◌, [], ◌∷◌, ◌∙◌, refl, sym, ap}
use Rattle.std.specs.Vec.{with_item}
use Rattle.m3_model.specs.Config.Site.{tile_of, Site}
use Rattle.m3_kernel.specs.ActivityView.{seat_value}
use Rattle.m3_kernel.specs.ParcelView.{out_of}
use Rattle.m3_kernel.specs.ReadyJoin.{joins_at_tend}
use Rattle.m3_model.specs.Kernel.Step.{kernel_tend, then_restore}
use Rattle.m3_kernel.specs.KernelStateView.{kernel_in}
use Rattle.m3_kernel.proofs.ApplyHeldPacket.{met_tables, met_can, met_answers, tend_is}
use Rattle.m3_kernel.proofs.ChangeEntry.{held_removed}
use Rattle.m3_kernel.proofs.TableLookup.{within_seats, seat_here}
use Rattle.m3_kernel.specs.declared.state.State.{State}
use Rattle.m3_kernel.proofs.StepOutcome.{does_as}
use Rattle.m3_kernel.proofs.state.State.deliver_held.Goals as goal

pub is_ready_at-joins-requires : goal.is_ready_at-joins-requires
is_ready_at-joins-requires c = within_seats c.args.self.now.seats.items c.args.at c.requires.tending.place.seat c.requires.tending.place.here

pub route_answer-first-requires-clause-kept : goal.route_answer-first-requires-clause-kept
route_answer-first-requires-clause-kept c =
    let kept = c.requires.kept in
    let s = c.args.self.now in
    let place = c.requires.tending.place in
    let x = c.index_mut-seat.result.now in
    let act_is : (seat_value x).act ≡ c.args.act = ap (λ z. z.act) (sym (same_seat s c.args.at place.seat x place.here c.index_mut-seat.ensures.value)) ∙ place.act in
    record {
      tables = met_tables c.args.self.now kept c.args.act c.args.at c.requires.tending.place c.index_mut-seat.result.now c.deliver-said.new.self c.index_mut-seat.ensures.value c.deliver-said.result c.deliver-said.ensures.met;
      held = held_removed s kept c.args.at c.index_mut-seat.result.now c.deliver-said.new.self (within_seats s.seats.items c.args.at c.requires.tending.place.seat c.requires.tending.place.here) c.index_mut-seat.ensures.value c.remove_if.new.held
          (ap (λ z. z.act) c.deliver-said.ensures.met.seat) c.holds_nothing-is_empty.result c.holds_nothing-is_empty.ensures
          (λ i. c.remove_if.ensures i ∙ ap (λ n. not (c.holds_nothing-is_empty.result && (i == n)) && has_place s.held i) (sym (ap (λ z. z.act) c.deliver-said.ensures.met.seat ∙ act_is)))
          (λ e. let f : c.deliver-said.ensures.met.packet ∷ c.deliver-said.ensures.met.left ≡ [] = sym c.deliver-said.ensures.met.held ∙ e in absurd (cc));
      memory = kept.memory;
    }

pub route_answer-first-requires-clause-room : goal.route_answer-first-requires-clause-room
route_answer-first-requires-clause-room c =
    let s = c.args.self.now in
    let m : State = record { site = s.site; grants = s.grants; next = s.next; seats = with_item s.seats c.args.at c.deliver-said.new.self; index = s.index; berths = s.berths; sched = c.ready_if.new.self; held = c.remove_if.new.held } in
    met_can s c.requires.kept c.args.act c.args.at c.requires.tending.place c.index_mut-seat.result.now c.deliver-said.new.self c.index_mut-seat.ensures.value c.deliver-said.result c.deliver-said.ensures.met m refl c.deliver-said.ensures.room c.args.back c.requires.room

pub route_answer-first-requires-clause-by : goal.route_answer-first-requires-clause-by
route_answer-first-requires-clause-by c =
    met_answers c.args.self.now c.requires.kept c.args.act c.args.at c.requires.tending.place c.index_mut-seat.result.now c.deliver-said.new.self c.index_mut-seat.ensures.value c.deliver-said.result c.deliver-said.ensures.met c.ready_if.new.self c.args.back c.args.heard c.requires.tending.hears c.requires.tending.back_is

pub returns-clause-does : goal.returns-clause-does
returns-clause-does c =
    let s = c.args.self.now in
    let place = c.requires.tending.place in
    let x = c.index_mut-seat.result.now in
    let within = within_seats s.seats.items c.args.at place.seat place.here in
    let tile : c.tile_of-tile.result ≡ tile_of s.site c.args.act = c.tile_of-tile.ensures ∙ ap (tile_of s.site) c.number.ensures.same in
    let joins : c.is_ready_at-joins.result ≡ joins_at_tend s.site c.args.act (seat_value x).seating = c.is_ready_at-joins.ensures (seat_value x) (seat_here s.seats.items c.args.at x within c.index_mut-seat.ensures.value) in
    let step = tend_is s c.requires.kept c.args.act c.args.at place x c.deliver-said.new.self c.index_mut-seat.ensures.value c.deliver-said.result c.deliver-said.ensures.met c.tile_of-tile.result tile c.ready_if.new.self c.is_ready_at-joins.result joins c.ready_if.ensures
    c.route_answer-first.result (kernel_in c.route_answer-first.new.self) c.route_answer-first.ensures.sends in
    does_as c.then_restore.result (kernel_in c.then_restore.new.self) (kernel_tend s.site (kernel_in s) c.args.act)
    (then_restore c.route_answer-first.new.self.site c.deliver-said.result.said c.tile_of-tile.result (kernel_in c.route_answer-first.new.self) (out_of c.route_answer-first.result))
    (step ∙ ap (λ (h : Site). then_restore h c.deliver-said.result.said c.tile_of-tile.result (kernel_in c.route_answer-first.new.self) (out_of c.route_answer-first.result)) (sym c.route_answer-first.ensures.site))
    c.then_restore.ensures.does
