use Rattle.std.proofs.Common.{◌≡◌, ◌++◌, ◌∙◌, ◌∷◌, [], ap, subst, sym, List, refl}
use Rattle.std.specs.declared.collections.vec_deque.Iter.{Iter}
use Rattle.m3_base.specs.declared.packet.Packet.{Packet}
use Rattle.m3_base.proofs.MemoryStreams.{empty_list as none_left}
use Rattle.m3_machine.proofs.TraversalSteps.{LeftOf, one_more, all_done}
use Rattle.m3_machine.proofs.traversal.visit_hold.Goals as goal

pub loop-packet-init : goal.loop-packet-init
loop-packet-init g c =
    let items = c.args.hold.now.items in
    let all : c.into_iter-packet-iterator.result.head.now ++ c.into_iter-packet-iterator.result.wrapped.now ≡ items =
    ap (λ (it : Iter Packet). it.head.now ++ it.wrapped.now) c.into_iter-packet-iterator.ensures.into_iter_gives ∙ c.iter-packet-items.ensures.rest in
    subst (λ (ps : List Packet). LeftOf g.V.Visitor.visits [] items [] ps c.args.visitor.now c.args.visitor.now) (sym all) (λ last k. k)

pub loop-packet-preserved : goal.loop-packet-preserved
loop-packet-preserved g c =
    let items = c.args.hold.now.items in
    let q = c.in-Some.packet.now in
    let rest = c.loop-packet.packet-iterator.head.now ++ c.loop-packet.packet-iterator.wrapped.now in
    let left = c.next.new.self.head.now ++ c.next.new.self.wrapped.now in
    one_more g.V.Visitor.visits c.requires.both [] [] [] [] items rest (q ∷ []) left c.args.visitor.now c.loop-packet.visitor c.packet.new.self refl c.in-Some.ensures.steps c.loop-packet.invariant c.packet.ensures

pub returns : goal.returns
returns g c =
    let items = c.args.hold.now.items in
    let rest = c.loop-packet.packet-iterator.head.now ++ c.loop-packet.packet-iterator.wrapped.now in
    all_done g.V.Visitor.visits c.requires.none [] [] items rest c.args.visitor.now c.loop-packet.visitor refl (none_left rest c.in-None.ensures.steps.0) c.loop-packet.invariant
