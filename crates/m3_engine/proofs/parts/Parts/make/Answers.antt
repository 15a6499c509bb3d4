use Rattle.std.proofs.Common.{subst}
use Rattle.m3_base.specs.declared.event.Event.{Event}
use Rattle.m3_model.specs.Events.{IsOfSetup}
use Rattle.m3_engine.specs.PartsView.{parts_of}
use Rattle.m3_engine.proofs.PartStep.{holder_seated}
use Rattle.m3_engine.proofs.parts.Parts.make.Goals as goal

pub order-requires-clause-seated : goal.order-requires-clause-seated
order-requires-clause-seated c =
    holder_seated (parts_of c.args.self.now) c.in-Order.order c.requires.able.seats (
    subst (λ (e : Event). IsOfSetup c.args.self.now.kernel.site e) c.in-Order.is c.requires.declared
    )
