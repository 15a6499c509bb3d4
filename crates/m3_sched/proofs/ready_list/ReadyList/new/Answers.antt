use Rattle.std.proofs.Common.{rules}
use Rattle.m3_sched.proofs.ReadyLists.{empty_list}
use Rattle.m3_sched.proofs.ready_list.ReadyList.new.Goals as goal

pub invariant_of-result : goal.invariant_of-result
invariant_of-result c = empty_list _ _ _ c.in_ok-acts.ensures.items c.in_ok-acts.ensures.capacity (let e = c.new-has.ensures.items in let f = c.in_ok-resize.ensures.items in search rules)
