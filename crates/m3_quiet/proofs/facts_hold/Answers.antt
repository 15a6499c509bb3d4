use Rattle.m3_quiet.proofs.Runs.Entries.{facts_hold}
use Rattle.m3_quiet.proofs.facts_hold.Goals as goal

pub returns : goal.returns
returns c = facts_hold
