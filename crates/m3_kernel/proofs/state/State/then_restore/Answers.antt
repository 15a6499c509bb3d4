use Rattle.std.proofs.Common.{ap}
use Rattle.m3_kernel.proofs.TableLookup.{within_seats}
use Rattle.m3_kernel.proofs.ChangeEntry.{held_now}
use Rattle.m3_kernel.proofs.RestoreOut.{restore_tables, restore_does}
use Rattle.m3_kernel.proofs.state.State.then_restore.Goals as goal

pub returns-in-Some-clause-kept : goal.returns-in-Some-clause-kept
returns-in-Some-clause-kept c =
    let s = c.args.self.now in
    let due = c.in-Some.ensures in
    record {
      tables = restore_tables s c.requires c.args.tile c.in-Some.at due c.index_mut.result.now c.restore-parcel.new.self (within_seats s.seats.items c.in-Some.at due.seat due.here) c.index_mut.ensures.value c.restore-parcel.ensures.seat
          c.came.new.self c.came.ensures;
      held = held_now s c.requires c.in-Some.at c.index_mut.result.now c.restore-parcel.new.self (within_seats s.seats.items c.in-Some.at due.seat due.here) c.index_mut.ensures.value (ap (λ z. z.act) c.restore-parcel.ensures.seat) (ap (λ z. z.hold) c.restore-parcel.ensures.seat);
      memory = c.requires.memory;
    }

pub returns-in-Some-clause-does : goal.returns-in-Some-clause-does
returns-in-Some-clause-does c =
    let s = c.args.self.now in
    let due = c.in-Some.ensures in
    restore_does s c.requires c.args.tile c.in-Some.at due c.index_mut.result.now c.restore-parcel.new.self (within_seats s.seats.items c.in-Some.at due.seat due.here) c.index_mut.ensures.value c.restore-parcel.ensures.seat
    c.came.new.self c.came.ensures
    c.restores.result c.args.said c.args.first c.act-act.result c.restore-parcel.result c.index.result.now c.index.ensures c.act-act.ensures c.restore-parcel.ensures.parcel c.restores.ensures
