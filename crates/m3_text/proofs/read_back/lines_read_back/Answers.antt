use Rattle.m3_text.proofs.LinesAgain.{lines_again, words_again, words_plain}
use Rattle.m3_text.proofs.read_back.lines_read_back.Goals as goal

pub returns-clause-lines : goal.returns-clause-lines
returns-clause-lines c = lines_again

pub returns-clause-words : goal.returns-clause-words
returns-clause-words c = words_again

pub returns-clause-plain : goal.returns-clause-plain
returns-clause-plain c = words_plain
