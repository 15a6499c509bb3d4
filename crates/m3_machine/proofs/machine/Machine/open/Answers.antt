use Rattle.std.proofs.Common.{◌≡◌, ◌∙◌, ap, subst, sym}
use Rattle.m3_model.specs.Abstraction.{ideal_of, placement_of}
use Rattle.m3_model.specs.SetupOpening.{opened_site}
use Rattle.m3_base.specs.Setup.Rules.{SetupValue, IsValid}
use Rattle.m3_trace.proofs.ValidSetup.{opens_as}
use Rattle.m3_engine.specs.EngineView.{EngineAt}
use Rattle.m3_machine.proofs.MachineOpens.{opened_bounds}
use Rattle.m3_machine.proofs.machine.Machine.open.Goals as goal

pub invariant_of-result : goal.invariant_of-result
invariant_of-result g c =
    let s = c.args.setup in
    opened_bounds g.P.Program.meaning g.P.Program.moves s c.in_ok-engine.ensures.valid c.in_ok-engine.ensures.low c.args.programs.items c.requires.programs c.args.orders.items c.requires.orders
    (g.R.Recorder.setup c.in_ok-recorder.recorder) (g.R.Recorder.entries c.in_ok-recorder.recorder) c.in_ok-engine.engine c.of-initial.result.value.items c.in_ok-programs.programs.items
    c.in_ok-recorder.ensures.setup c.in_ok-recorder.ensures.entries c.in_ok-engine.ensures.opened (ap (λ v. v.items) c.of-initial.ensures) c.in_ok-programs.ensures c.new-orders.result c.new-orders.ensures

pub returns-clause-ideal : goal.returns-clause-ideal
returns-clause-ideal g c = ap (λ (e : EngineAt). ideal_of e.machine) c.in_ok-engine.ensures.opened ∙ (opens_as c.args.setup c.in_ok-engine.ensures.valid).0

pub returns-clause-placement : goal.returns-clause-placement
returns-clause-placement g c =
    ap (λ (s : SetupValue). placement_of (opened_site s) c.in_ok-engine.engine.machine) c.in_ok-recorder.ensures.setup
    ∙ ap (λ (e : EngineAt). placement_of (opened_site c.args.setup) e.machine) c.in_ok-engine.ensures.opened
    ∙ (opens_as c.args.setup c.in_ok-engine.ensures.valid).1

pub returns-clause-valid : goal.returns-clause-valid
returns-clause-valid g c = subst IsValid (sym c.in_ok-recorder.ensures.setup) c.in_ok-engine.ensures.valid
