use Rattle.std.proofs.Common.{[], append-nil, List, subst}
use Rattle.m3_base.specs.Ideal.Context.{Context}
use Rattle.m3_base.specs.declared.packet.Packet.{Packet}
use Rattle.m3_kernel.specs.ActivityView.{seat_value}
use Rattle.m3_model.specs.Abstraction.{entry_contexts, held_by}
use Rattle.m3_machine.proofs.traversal.visit_seat.Goals as goal

pub returns : goal.returns
returns g c =
    let x = seat_value c.args.seat.now in
    subst (λ (cs : List Context). g.V.Visitor.visits cs (held_by x) c.args.visitor.now c.visit_hold.new.visitor) (append-nil (entry_contexts x)) (
    c.requires.both (entry_contexts x) [] [] (held_by x) c.args.visitor.now c.visit_context.new.visitor c.visit_hold.new.visitor c.visit_context.ensures
    (subst (λ (ps : List Packet). g.V.Visitor.visits [] ps c.visit_context.new.visitor c.visit_hold.new.visitor) c.hold.ensures c.visit_hold.ensures)
    )
