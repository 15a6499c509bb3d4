use Rattle.std.proofs.Common.{◌≡◌, ◌+◌, ◌≤◌, length}
use Rattle.std.specs.Str.Lines.{lines}
use Rattle.m3_journal.specs.Reading.Journals.{draft_after_all, draft_after_line, journal_of_reading, journal_of}
use Rattle.m3_journal.specs.Reading.Refusals.{draft_value}
use Rattle.m3_journal.proofs.reading.parsing.parse_journal.Given as goal

abbrev pub invariant-loop-rest : goal.invariant-loop-rest
invariant-loop-rest l = record {
  reads : journal_of_reading (draft_after_all draft_after_line (lines l.rest) (draft_value l.draft) l.line) ≡ journal_of l.bytes;
  room : l.line + length l.rest ≤ length l.bytes + 1;
}

abbrev pub decreases-loop-rest : goal.decreases-loop-rest
decreases-loop-rest l = length l.rest
