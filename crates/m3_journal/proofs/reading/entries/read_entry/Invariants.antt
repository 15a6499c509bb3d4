use Rattle.std.proofs.Common.{◌≡◌, ◌≤◌, length}
use Rattle.m3_text.specs.Lines.{texts}
use Rattle.m3_journal.specs.Reading.Entries.{entry_before, entry_of}
use Rattle.m3_journal.proofs.reading.entries.read_entry.Given as goal

abbrev pub invariant-loop-count : goal.invariant-loop-count
invariant-loop-count l = record {
  reads : entry_before l.count (texts l.words) ≡ entry_of (texts l.words);
  inside : l.count ≤ length l.words;
}

abbrev pub decreases-loop-count : goal.decreases-loop-count
decreases-loop-count l = l.count
