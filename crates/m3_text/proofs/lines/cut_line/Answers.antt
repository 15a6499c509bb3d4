use Rattle.std.proofs.Common.{◌+◌, add-one}
use Rattle.m3_text.proofs.FirstLine.{line_at_newline, line_without_newline, drop_rest}
use Rattle.m3_text.proofs.lines.cut_line.Goals as goal

pub returns-in-Some-clause-line : goal.returns-in-Some-clause-line
returns-in-Some-clause-line c =
    let found = line_at_newline c.args.text.now c.in-Some.at c.in-Some.ensures in
    rw (drop_rest c.args.text.now (c.in-Some.at + 1), c.without_return.ensures, add-one) found

pub returns-in-None-clause-line : goal.returns-in-None-clause-line
returns-in-None-clause-line c = line_without_newline c.args.text.now c.requires c.in-None.ensures
