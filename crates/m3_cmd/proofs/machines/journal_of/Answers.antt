use Rattle.m3_cmd.proofs.MachineRuns.{runs_of}
use Rattle.m3_cmd.proofs.machines.journal_of.Goals as goal

pub returns-clause-runs : goal.returns-clause-runs
returns-clause-runs c =
    runs_of c.args.machine.now c.recorder.ensures.valid c.recorder.ensures.run c.recorder.ensures.places c.recorder.ensures.replies c.recorder.ensures.laws
    c.recorder.ensures.ends c.recorder.ensures.reach
