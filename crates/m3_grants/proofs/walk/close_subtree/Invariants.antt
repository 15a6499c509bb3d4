use Rattle.std.proofs.Common.{◌≡◌, vec_capacity}
use Rattle.m3_grants.specs.SubtreeWalk.{Walks, left}
use Rattle.m3_grants.proofs.walk.close_subtree.Given as goal

abbrev pub invariant-loop-next : goal.invariant-loop-next
invariant-loop-next l = record {
  walks : Walks l.fn.g l.fn.nodes l.nodes l.pending.items;
  room : vec_capacity l.pending ≡ vec_capacity l.fn.pending;
}

abbrev pub decreases-loop-next : goal.decreases-loop-next
decreases-loop-next l = left l.nodes l.pending.items
