use Rattle.std.proofs.Common.{sym, ◌∙◌}
use Rattle.m3_journal_json.proofs.Values.{lists_read}
use Rattle.m3_journal_json.proofs.reading.read_lists.Goals as goal

pub returns-then-are_texts-3 : goal.returns-then-are_texts-3
returns-then-are_texts-3 c = record {
  exact = lists_read c.read_strings.result c.args.setup.now c.args.entries.now c.args.audit.now
      (sym c.are_texts.ensures ∙ c.if-are_texts.true) (sym c.are_texts-then-are_texts.ensures ∙ c.if-are_texts-2.true) (sym c.are_texts-then-are_texts-2.ensures ∙ c.if-are_texts-3.true)
      c.read_strings.ensures.exact;
  few = c.read_strings.ensures.few;
}
