use Rattle.m3_quiet.proofs.Runs.Entries.{runs_fall}
use Rattle.m3_quiet.proofs.runs_lower_the_sum.Goals as goal

pub returns : goal.returns
returns c = runs_fall
