use Rattle.m3_journal_json.proofs.TextAgain.{json_again}
use Rattle.m3_journal_json.proofs.laws.json_reads_back.Goals as goal

pub returns : goal.returns
returns c = json_again
