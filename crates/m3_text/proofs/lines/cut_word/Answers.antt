use Rattle.std.proofs.Common.{◌+◌, add-one}
use Rattle.m3_text.proofs.FirstLine.{word_at_space, word_without_space, drop_rest}
use Rattle.m3_text.proofs.lines.cut_word.Goals as goal

pub returns-in-Some-clause-word : goal.returns-in-Some-clause-word
returns-in-Some-clause-word c =
    let found = word_at_space c.args.line.now c.in-Some.at c.in-Some.ensures in
    rw (drop_rest c.args.line.now (c.in-Some.at + 1), add-one) found

pub returns-in-None-clause-word : goal.returns-in-None-clause-word
returns-in-None-clause-word c = word_without_space c.args.line.now c.in-None.ensures
