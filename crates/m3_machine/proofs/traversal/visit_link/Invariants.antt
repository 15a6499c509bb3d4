use Rattle.std.proofs.Common.{map, ◌++◌}
use Rattle.m3_kernel.specs.ParcelView.{parcel_of}
use Rattle.m3_model.specs.Abstraction.{flat_map, contexts_in, packets_in}
use Rattle.m3_machine.proofs.TraversalSteps.{LeftOf}
use Rattle.m3_machine.proofs.traversal.visit_link.Given as goal

abbrev pub invariant-loop-parcel : goal.invariant-loop-parcel
invariant-loop-parcel g l =
    let all = map parcel_of l.link.items in
    let rest = map parcel_of (l.parcel-iterator.head.now ++ l.parcel-iterator.wrapped.now) in
    LeftOf g.V.Visitor.visits (flat_map contexts_in all) (flat_map packets_in all) (flat_map contexts_in rest) (flat_map packets_in rest) l.fn.visitor l.visitor
