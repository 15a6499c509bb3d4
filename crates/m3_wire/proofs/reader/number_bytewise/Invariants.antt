use Rattle.m3_wire.proofs.NumberByteLoop.{Walks}
use Rattle.m3_wire.proofs.reader.number_bytewise.Given as goal

abbrev pub invariant-loop-i : goal.invariant-loop-i
invariant-loop-i l = Walks l.width l.low l.high l.bytes l.value l.scale l.i
