use Rattle.m3_laws.proofs.journals.LawsAfterEntries.{journal_laws}
use Rattle.m3_laws.proofs.journals_keep_laws.Goals as goal

pub returns : goal.returns
returns c = journal_laws
