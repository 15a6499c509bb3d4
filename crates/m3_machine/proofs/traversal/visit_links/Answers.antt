use Rattle.std.proofs.Common.{◌+◌, drop, map, List}
use Rattle.std.specs.declared.collections.VecDeque.{VecDeque}
use Rattle.std.specs.declared.alloc.Global.{Global}
use Rattle.m3_core.specs.declared.parcel.Parcel.{Parcel as CodeParcel}
use Rattle.m3_kernel.specs.ParcelView.{parcel_of, parcels_of}
use Rattle.m3_link.specs.LinksView.{lists_in}
use Rattle.m3_model.specs.Abstraction.{flat_map, flat_links, contexts_in, packets_in}
use Rattle.m3_machine.proofs.TraversalSteps.{one_more, all_done, links_more, links_past}
use Rattle.m3_machine.proofs.traversal.visit_links.Goals as goal

pub loop-link-init : goal.loop-link-init
loop-link-init g c last k = k

pub loop-link-preserved : goal.loop-link-preserved
loop-link-preserved g c =
    let cs = λ (links : List (VecDeque CodeParcel Global)). flat_links contexts_in (parcels_of (lists_in links)) in
    let ds = λ (links : List (VecDeque CodeParcel Global)). flat_links packets_in (parcels_of (lists_in links)) in
    let links = c.args.links.now in
    let i = c.loop-link.link-index in
    let x = c.link-item.result in
    let qs = map parcel_of x.items in
    one_more g.V.Visitor.visits c.requires.both (cs links) (cs (drop i links)) (flat_map contexts_in qs) (cs (drop (i + 1) links)) (ds links) (ds (drop i links)) (flat_map packets_in qs) (ds (drop (i + 1) links)) c.args.visitor.now c.loop-link.visitor c.visit_link.new.visitor
    (links_more contexts_in links i x c.loop-link-test.true c.link-item.is) (links_more packets_in links i x c.loop-link-test.true c.link-item.is) c.loop-link.invariant c.visit_link.ensures

pub returns : goal.returns
returns g c =
    let cs = λ (links : List (VecDeque CodeParcel Global)). flat_links contexts_in (parcels_of (lists_in links)) in
    let ds = λ (links : List (VecDeque CodeParcel Global)). flat_links packets_in (parcels_of (lists_in links)) in
    let links = c.args.links.now in
    let i = c.loop-link.link-index in
    all_done g.V.Visitor.visits c.requires.none (cs links) (cs (drop i links)) (ds links) (ds (drop i links)) c.args.visitor.now c.loop-link.visitor
    (links_past contexts_in links i c.loop-link-test.false) (links_past packets_in links i c.loop-link-test.false) c.loop-link.invariant
