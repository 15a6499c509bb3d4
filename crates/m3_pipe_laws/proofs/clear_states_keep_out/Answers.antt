use Rattle.m3_pipe_laws.proofs.Grants.Exclusion.{clears_outside}
use Rattle.m3_pipe_laws.proofs.clear_states_keep_out.Goals as goal

pub returns : goal.returns
returns c = clears_outside
