use Rattle.std.proofs.Common.{◌≡◌, ◌++◌, take, map}
use Rattle.m3_journal.specs.JournalText.{strings, entry_line}
use Rattle.m3_journal.proofs.line_texts.entry_texts.Given as goal

abbrev pub invariant-loop-entry : goal.invariant-loop-entry
invariant-loop-entry l = strings l.texts.items ≡ map entry_line (take l.entry-index l.entries)
