use Rattle.m3_quiet.proofs.Runs.Entries.{kept_stays}
use Rattle.m3_quiet.proofs.steps_keep_bookkeeping.Goals as goal

pub returns : goal.returns
returns c = kept_stays
