use Rattle.std.proofs.Common.{sym, subst}
use Rattle.m3_core.specs.declared.parcel.Parcel.{Parcel as CodeParcel}
use Rattle.m3_kernel.specs.ParcelView.{parcel_of}
use Rattle.m3_model.specs.Abstraction.{contexts_in, packets_in}
use Rattle.m3_machine.proofs.traversal.visit_parcel.Goals as goal

pub returns-in-Saved : goal.returns-in-Saved
returns-in-Saved g c =
    subst (λ (q : CodeParcel). g.V.Visitor.visits (contexts_in (parcel_of q)) (packets_in (parcel_of q)) c.args.visitor.now c.context.new.self) (sym c.in-Saved.is) c.context.ensures

pub returns-in-Restore : goal.returns-in-Restore
returns-in-Restore g c =
    subst (λ (q : CodeParcel). g.V.Visitor.visits (contexts_in (parcel_of q)) (packets_in (parcel_of q)) c.args.visitor.now c.context-in-Restore.new.self) (sym c.in-Restore.is) c.context-in-Restore.ensures
