use Rattle.std.proofs.Common.{◌≡◌, ◌++◌, take, map, string_bytes}
use Rattle.m3_text.specs.Printing.{text_of_lines}
use Rattle.m3_journal.specs.JournalText.{audit_line}
use Rattle.m3_journal.proofs.audits.put_audit.Given as goal

abbrev pub invariant-loop-line : goal.invariant-loop-line
invariant-loop-line l = string_bytes l.out ≡ string_bytes l.fn.out ++ text_of_lines (map audit_line (take l.line-index l.lines))
