use Rattle.std.proofs.Common.{◌≡◌, replicate, false}
use Rattle.m3_link.proofs.wires.no_room.Given as goal

abbrev pub invariant-loop : goal.invariant-loop
invariant-loop l = l.roomy.items ≡ replicate l.counter false
