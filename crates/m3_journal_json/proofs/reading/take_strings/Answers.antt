use Rattle.std.proofs.Common.{◌≡◌, ℕ, ◌<◌, ◌≤◌, List, [], length, get_or, sym, ◌∙◌, arith}
use Rattle.m3_journal.specs.Reading.Journals.{draft_after_all, draft_after_string}
use Rattle.m3_journal.specs.Reading.Refusals.{draft_value}
use Rattle.m3_journal_json.specs.Reads.{value_texts}
use Rattle.m3_journal_json.proofs.Loop.{goes_on, is_refused, none_left}
use Rattle.m3_journal_json.proofs.Values.{text_at, length_texts}
use Rattle.m3_journal_json.proofs.reading.take_strings.Goals as goal

pub returns-in-Err : goal.returns-in-Err
returns-in-Err c =
    let inside : c.loop-value.value-index < length (value_texts c.args.values.now) = omega (arith, length_texts c.args.values.now, c.loop-value-test.true) in
    let text : get_or (value_texts c.args.values.now) c.loop-value.value-index [] ≡ c.as_bytes.result.now =
    text_at c.args.values.now c.loop-value.value-index c.value-item.result c.loop-value-test.true c.value-item.is ∙ sym c.text_of.ensures ∙ sym c.as_bytes.ensures.value in
    rw c.refusal.ensures (is_refused (value_texts c.args.values.now) c.loop-value.value-index c.as_bytes.result.now (draft_value c.loop-value.draft) c.loop-value.line c.in-Err.error
    (draft_after_all draft_after_string (value_texts c.args.values.now) (draft_value c.args.draft.now) c.args.line) inside text c.in-Err.ensures c.loop-value.invariant)

pub loop-value-preserved : goal.loop-value-preserved
loop-value-preserved c =
    let inside : c.loop-value.value-index < length (value_texts c.args.values.now) = omega (arith, length_texts c.args.values.now, c.loop-value-test.true) in
    let text : get_or (value_texts c.args.values.now) c.loop-value.value-index [] ≡ c.as_bytes.result.now =
    text_at c.args.values.now c.loop-value.value-index c.value-item.result c.loop-value-test.true c.value-item.is ∙ sym c.text_of.ensures ∙ sym c.as_bytes.ensures.value in
    goes_on (value_texts c.args.values.now) c.loop-value.value-index c.as_bytes.result.now (draft_value c.loop-value.draft) (draft_value c.take_string.new.self) c.loop-value.line
    (draft_after_all draft_after_string (value_texts c.args.values.now) (draft_value c.args.draft.now) c.args.line) inside text c.in-Ok.ensures c.loop-value.invariant

pub returns : goal.returns
returns c =
    let outside : length (value_texts c.args.values.now) ≤ c.loop-value.value-index = omega (arith, length_texts c.args.values.now, c.loop-value-test.false) in
    none_left (value_texts c.args.values.now) c.loop-value.value-index (draft_value c.loop-value.draft) c.loop-value.line
    (draft_after_all draft_after_string (value_texts c.args.values.now) (draft_value c.args.draft.now) c.args.line) outside c.loop-value.invariant
