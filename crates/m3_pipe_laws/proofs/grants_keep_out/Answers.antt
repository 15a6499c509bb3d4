use Rattle.m3_pipe_laws.proofs.Grants.Lines.{grants_outside}
use Rattle.m3_pipe_laws.proofs.grants_keep_out.Goals as goal

pub returns : goal.returns
returns c = grants_outside
