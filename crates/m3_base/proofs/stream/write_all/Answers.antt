use Rattle.std.proofs.Common.{rules}
use Rattle.m3_base.proofs.StreamLoops.{so_far_rest, so_far_some}
use Rattle.m3_base.proofs.stream.write_all.Goals as goal

pub loop-rest-preserved : goal.loop-rest-preserved
loop-rest-preserved g c = record {
  so_far = so_far_rest _ _ _ _ c.loop-rest.rest.now c.in-Ok.n c.in-Ok.ensures.bound c.loop-rest.invariant.so_far c.in-Ok.ensures.bytes;
  later = search rules;
}

pub returns-in-Err-clause-prefix : goal.returns-in-Err-clause-prefix
returns-in-Err-clause-prefix g c = so_far_some _ _ _ _ c.loop-rest.rest.now c.loop-rest.invariant.so_far c.in-Err.ensures.bytes
