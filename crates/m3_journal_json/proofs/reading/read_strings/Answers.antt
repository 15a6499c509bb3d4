use Rattle.m3_journal.specs.Reading.Refusals.{draft_value}
use Rattle.m3_journal_json.specs.Reads.{value_texts}
use Rattle.m3_journal_json.proofs.Whole.{after_setup, setup_refused}
use Rattle.m3_journal_json.proofs.reading.read_strings.Goals as goal

pub returns-in-Ok : goal.returns-in-Ok
returns-in-Ok c = record {
  exact = after_setup (value_texts c.args.setup.now) (value_texts c.args.entries.now) (value_texts c.args.audit.now) c.read_entries.result (draft_value c.new-draft.result) (draft_value c.take_list.new.draft, c.in-Ok.line)
      c.new-draft.ensures c.in-Ok.ensures c.read_entries.ensures.exact;
  few = c.read_entries.ensures.few;
}

pub returns-in-Err : goal.returns-in-Err
returns-in-Err c = record {
  exact = setup_refused (value_texts c.args.setup.now) (value_texts c.args.entries.now) (value_texts c.args.audit.now) c.in-Err.error (draft_value c.new-draft.result) c.new-draft.ensures c.in-Err.ensures;
  few = tt;
}
