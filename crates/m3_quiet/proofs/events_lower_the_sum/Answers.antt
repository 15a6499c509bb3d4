use Rattle.m3_quiet.proofs.Events.AllKinds.{step_falls}
use Rattle.m3_quiet.proofs.events_lower_the_sum.Goals as goal

pub returns : goal.returns
returns c = step_falls
