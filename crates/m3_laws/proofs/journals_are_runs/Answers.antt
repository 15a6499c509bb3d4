use Rattle.m3_laws.proofs.journals.EntriesAreRun.{one_run}
use Rattle.m3_laws.proofs.journals_are_runs.Goals as goal

pub returns : goal.returns
returns c = one_run
