use Rattle.std.proofs.Common.{◌∙◌, sym, ap}
use Rattle.m3_kernel.specs.ParcelView.{parcel_of}
use Rattle.m3_trace.specs.DriverOfMachine.{next_event_left}
use Rattle.m3_trace.proofs.DriverTake.{next_mapped}
use Rattle.m3_engine.specs.EngineView.{EngineAt, engine_at}
use Rattle.m3_engine.specs.NextEvent.{next_of_parts}
use Rattle.m3_engine.proofs.FirstFrom.{by_parts}
use Rattle.m3_engine.proofs.engine.Engine.next.Goals as goal

pub returns : goal.returns
returns c =
    let m = (engine_at c.self.inside).machine in
    c.next_event.ensures ∙ ap (λ o. next_of_parts o c.self.inside.parts c.args.left.now) (sym (next_mapped parcel_of c.self.inside.wires.lists))
    ∙ by_parts c.self.inside.parts.kernel.site m c.args.left.now _
    ∙ ap (λ (e : EngineAt). next_event_left e.site e.machine c.args.left.now) c.self.view_is
