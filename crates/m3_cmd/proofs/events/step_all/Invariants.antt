use Rattle.std.proofs.Common.{◌≡◌, ◌++◌, length}
use Rattle.std.specs.Vec.Iter.{into_iter_items, into_iter_len}
use Rattle.m3_cmd.specs.ListMachines.{AreMakeable, Follows}
use Rattle.m3_cmd.proofs.events.step_all.Given as goal

abbrev pub invariant-loop-event : goal.invariant-loop-event
invariant-loop-event l = (l.yielded ++ into_iter_items l.event-iterator ≡ into_iter_items l.initial.event-iterator)
    × (into_iter_len l.event-iterator ≡ length (into_iter_items l.event-iterator))
    × Follows l.initial.machine l.yielded l.machine
    × AreMakeable l.initial.machine.setup (into_iter_items l.event-iterator)
