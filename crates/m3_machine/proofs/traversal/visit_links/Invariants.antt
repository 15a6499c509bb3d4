use Rattle.std.proofs.Common.{drop}
use Rattle.m3_kernel.specs.ParcelView.{parcels_of}
use Rattle.m3_link.specs.LinksView.{lists_in}
use Rattle.m3_model.specs.Abstraction.{flat_links, contexts_in, packets_in}
use Rattle.m3_machine.proofs.TraversalSteps.{LeftOf}
use Rattle.m3_machine.proofs.traversal.visit_links.Given as goal

abbrev pub invariant-loop-link : goal.invariant-loop-link
invariant-loop-link g l =
    let all = parcels_of (lists_in l.links) in
    let rest = parcels_of (lists_in (drop l.link-index l.links)) in
    LeftOf g.V.Visitor.visits (flat_links contexts_in all) (flat_links packets_in all) (flat_links contexts_in rest) (flat_links packets_in rest) l.fn.visitor l.visitor
