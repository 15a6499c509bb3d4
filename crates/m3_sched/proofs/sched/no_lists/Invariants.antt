use Rattle.std.proofs.Common.{◌≡◌, replicate, []}
use Rattle.m3_sched.proofs.sched.no_lists.Given as goal

abbrev pub invariant-loop : goal.invariant-loop
invariant-loop l = l.lists.items ≡ replicate l.counter []
