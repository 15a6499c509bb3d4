use Rattle.std.proofs.Common.{[]}
use Rattle.m3_journal.specs.Reading.Refusals.{draft_value}
use Rattle.m3_journal_json.specs.Reads.{value_texts}
use Rattle.m3_journal_json.proofs.Whole.{after_entries, entries_refused}
use Rattle.m3_journal_json.proofs.reading.read_entries.Goals as goal

pub returns-in-Ok : goal.returns-in-Ok
returns-in-Ok c = record {
  exact = after_entries [] (value_texts c.args.entries.now) (value_texts c.args.audit.now) c.read_audit.result (draft_value c.args.draft, c.args.line) (draft_value c.take_list.new.draft, c.in-Ok.line)
      c.in-Ok.ensures c.read_audit.ensures.exact;
  few = c.read_audit.ensures.few;
}

pub returns-in-Err : goal.returns-in-Err
returns-in-Err c = record {
  exact = entries_refused [] (value_texts c.args.entries.now) (value_texts c.args.audit.now) c.in-Err.error (draft_value c.args.draft, c.args.line) c.in-Err.ensures;
  few = tt;
}
