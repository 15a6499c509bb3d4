use Rattle.std.proofs.Common.{◌≡◌, ◌++◌, ◌∙◌, map, ap, subst, sym, List}
use Rattle.std.specs.declared.collections.vec_deque.Iter.{Iter}
use Rattle.m3_core.specs.declared.parcel.Parcel.{Parcel as CodeParcel}
use Rattle.m3_kernel.specs.ParcelView.{parcel_of}
use Rattle.m3_model.specs.Abstraction.{flat_map, contexts_in, packets_in}
use Rattle.m3_base.proofs.MemoryStreams.{empty_list as none_left}
use Rattle.m3_machine.proofs.TraversalSteps.{LeftOf, one_more, all_done}
use Rattle.m3_machine.proofs.traversal.visit_link.Goals as goal

pub loop-parcel-init : goal.loop-parcel-init
loop-parcel-init g c =
    let cs = λ (ps : List CodeParcel). flat_map contexts_in (map parcel_of ps) in
    let ds = λ (ps : List CodeParcel). flat_map packets_in (map parcel_of ps) in
    let items = c.args.link.now.items in
    let all : c.into_iter-parcel-iterator.result.head.now ++ c.into_iter-parcel-iterator.result.wrapped.now ≡ items =
    ap (λ (it : Iter CodeParcel). it.head.now ++ it.wrapped.now) c.into_iter-parcel-iterator.ensures.into_iter_gives ∙ c.iter-parcel-items.ensures.rest in
    subst (λ (ps : List CodeParcel). LeftOf g.V.Visitor.visits (cs items) (ds items) (cs ps) (ds ps) c.args.visitor.now c.args.visitor.now) (sym all) (λ last k. k)

pub loop-parcel-preserved : goal.loop-parcel-preserved
loop-parcel-preserved g c =
    let cs = λ (ps : List CodeParcel). flat_map contexts_in (map parcel_of ps) in
    let ds = λ (ps : List CodeParcel). flat_map packets_in (map parcel_of ps) in
    let items = c.args.link.now.items in
    let q = parcel_of c.in-Some.parcel.now in
    let rest = c.loop-parcel.parcel-iterator.head.now ++ c.loop-parcel.parcel-iterator.wrapped.now in
    let left = c.next.new.self.head.now ++ c.next.new.self.wrapped.now in
    one_more g.V.Visitor.visits c.requires.both (cs items) (cs rest) (contexts_in q) (cs left) (ds items) (ds rest) (packets_in q) (ds left) c.args.visitor.now c.loop-parcel.visitor c.visit_parcel.new.visitor
    (ap cs c.in-Some.ensures.steps) (ap ds c.in-Some.ensures.steps) c.loop-parcel.invariant c.visit_parcel.ensures

pub returns : goal.returns
returns g c =
    let cs = λ (ps : List CodeParcel). flat_map contexts_in (map parcel_of ps) in
    let ds = λ (ps : List CodeParcel). flat_map packets_in (map parcel_of ps) in
    let items = c.args.link.now.items in
    let rest = c.loop-parcel.parcel-iterator.head.now ++ c.loop-parcel.parcel-iterator.wrapped.now in
    let none = none_left rest c.in-None.ensures.steps.0 in
    all_done g.V.Visitor.visits c.requires.none (cs items) (cs rest) (ds items) (ds rest) c.args.visitor.now c.loop-parcel.visitor (ap cs none) (ap ds none) c.loop-parcel.invariant
