use Rattle.m3_laws.proofs.journals.LawsAfterEntries.{journals_fit_law}
use Rattle.m3_laws.proofs.journals_fit.Goals as goal

pub returns : goal.returns
returns c = journals_fit_law
