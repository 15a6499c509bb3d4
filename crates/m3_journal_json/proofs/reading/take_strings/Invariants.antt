use Rattle.std.proofs.Common.{◌≡◌, drop}
use Rattle.m3_journal.specs.Reading.Journals.{draft_after_all, draft_after_string}
use Rattle.m3_journal.specs.Reading.Refusals.{draft_value}
use Rattle.m3_journal_json.specs.Reads.{value_texts}
use Rattle.m3_journal_json.proofs.reading.take_strings.Given as goal

abbrev pub invariant-loop-value : goal.invariant-loop-value
invariant-loop-value l =
    draft_after_all draft_after_string (drop l.value-index (value_texts l.values)) (draft_value l.draft) l.line
    ≡ draft_after_all draft_after_string (value_texts l.values) (draft_value l.fn.draft) l.fn.line
