use Rattle.m3_quiet.proofs.Runs.Entries.{within_budget}
use Rattle.m3_quiet.proofs.runs_stay_within_budget.Goals as goal

pub returns : goal.returns
returns c = within_budget
