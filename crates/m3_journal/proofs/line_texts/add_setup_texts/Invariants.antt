use Rattle.std.proofs.Common.{◌≡◌, ◌++◌, take, map}
use Rattle.m3_journal.specs.JournalText.{strings, setup_line}
use Rattle.m3_journal.proofs.line_texts.add_setup_texts.Given as goal

abbrev pub invariant-loop-line : goal.invariant-loop-line
invariant-loop-line l = strings l.texts.items ≡ strings l.fn.texts.items ++ map setup_line (take l.line-index l.lines)
