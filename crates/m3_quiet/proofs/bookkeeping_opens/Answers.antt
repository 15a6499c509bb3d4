use Rattle.m3_quiet.proofs.Runs.Entries.{kept_opens}
use Rattle.m3_quiet.proofs.bookkeeping_opens.Goals as goal

pub returns : goal.returns
returns c = kept_opens
