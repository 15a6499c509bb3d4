use Rattle.std.proofs.Common.{◌≡◌, ◌++◌, take, map, string_bytes}
use Rattle.m3_text.specs.Printing.{text_of_lines}
use Rattle.m3_journal.specs.JournalText.{entry_line}
use Rattle.m3_journal.proofs.entries.put_entries.Given as goal

abbrev pub invariant-loop-entry : goal.invariant-loop-entry
invariant-loop-entry l = string_bytes l.out ≡ string_bytes l.fn.out ++ text_of_lines (map entry_line (take l.entry-index l.entries))
