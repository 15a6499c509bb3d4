use Rattle.std.proofs.Common.{◌++◌, []}
use Rattle.m3_machine.proofs.TraversalSteps.{LeftOf}
use Rattle.m3_machine.proofs.traversal.visit_hold.Given as goal

abbrev pub invariant-loop-packet : goal.invariant-loop-packet
invariant-loop-packet g l = LeftOf g.V.Visitor.visits [] l.hold.items [] (l.packet-iterator.head.now ++ l.packet-iterator.wrapped.now) l.fn.visitor l.visitor
