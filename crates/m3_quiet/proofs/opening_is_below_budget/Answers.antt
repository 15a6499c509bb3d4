use Rattle.m3_quiet.proofs.Sums.Opening.{opening_worth}
use Rattle.m3_quiet.proofs.opening_is_below_budget.Goals as goal

pub returns : goal.returns
returns c = opening_worth
