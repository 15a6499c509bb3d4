use Rattle.m3_journal.proofs.LinesAgain.{setup_read, entry_read, audit_read}
use Rattle.m3_journal.proofs.laws.lines_read_back.Goals as goal

pub returns-clause-setup : goal.returns-clause-setup
returns-clause-setup c = setup_read

pub returns-clause-entries : goal.returns-clause-entries
returns-clause-entries c = entry_read

pub returns-clause-audit : goal.returns-clause-audit
returns-clause-audit c = audit_read
