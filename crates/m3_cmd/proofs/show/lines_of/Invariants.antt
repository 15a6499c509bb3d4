use Rattle.std.proofs.Common.{length, string_bytes}
use Rattle.m3_cmd.proofs.PacketsShown.{Shows}
use Rattle.m3_cmd.proofs.show.lines_of.Given as goal

abbrev pub invariant-loop-rest : goal.invariant-loop-rest
invariant-loop-rest l = Shows l.bytes (string_bytes l.out) l.rest

abbrev pub decreases-loop-rest : goal.decreases-loop-rest
decreases-loop-rest l = length l.rest
