use Rattle.m3_quiet.proofs.Runs.Setups.{setups_within_budget}
use Rattle.m3_quiet.proofs.setups_stay_within_budget.Goals as goal

pub returns : goal.returns
returns c = setups_within_budget
