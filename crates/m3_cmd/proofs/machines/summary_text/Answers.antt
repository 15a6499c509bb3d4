use Rattle.std.proofs.Common.{List, ◌++◌, map, ap, ◌∙◌, string_bytes}
use Rattle.std.specs.Vec.{vec_items}
use Rattle.m3_base.specs.declared.journal.AuditLine.{AuditLine}
use Rattle.m3_base.specs.Load.Summary.{summary_lines}
use Rattle.m3_journal.specs.JournalText.{audit_line}
use Rattle.m3_text.specs.Printing.{text_of_lines}
use Rattle.m3_cmd.proofs.DriverMakes.{summary_is}
use Rattle.m3_cmd.proofs.machines.summary_text.Goals as goal

pub returns-clause-text : goal.returns-clause-text
returns-clause-text c =
    let middle = string_bytes c.put_summary.new.out in
    summary_is c.into_bytes.result.items (string_bytes c.new-out.result) middle (string_bytes c.put_audit.new.out) c.summary_of.result
    (summary_lines c.args.rounds c.args.machine.now.entries) _ (ap vec_items c.into_bytes.ensures.value)
    (c.in_ok-put_audit.ensures ∙ ap (λ (ls : List AuditLine). middle ++ text_of_lines (map audit_line ls)) (c.deref.ensures.value ∙ c.in_ok-audit.ensures))
    c.in_ok-put_summary.ensures c.new-out.ensures.bytes
    (c.summary_of.ensures ∙ ap (summary_lines c.args.rounds) (c.as_slice.ensures.value ∙ c.journal_of-journal.ensures.entries))
