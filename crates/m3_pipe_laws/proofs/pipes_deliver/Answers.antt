use Rattle.m3_pipe_laws.proofs.Runs.WholeRuns.{pipes_by_steps}
use Rattle.m3_pipe_laws.proofs.Runs.Steps.{step_stays}
use Rattle.m3_pipe_laws.proofs.Runs.Opening.{opening_stays}
use Rattle.m3_pipe_laws.proofs.pipes_deliver.Goals as goal

pub returns : goal.returns
returns c = pipes_by_steps step_stays opening_stays
