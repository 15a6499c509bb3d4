use Rattle.m3_journal.proofs.JournalsAgain.{journal_again, strings_again}
use Rattle.m3_journal.proofs.laws.journals_read_back.Goals as goal

pub returns-clause-text : goal.returns-clause-text
returns-clause-text c = journal_again

pub returns-clause-strings : goal.returns-clause-strings
returns-clause-strings c = strings_again
