use Rattle.std.proofs.Common.{◌≡◌, Some, string_bytes}
use Rattle.serde_json.specs.Read.{read}
use Rattle.m3_journal_json.specs.Objects.{journal_object, json_of}
use Rattle.m3_journal_json.proofs.Again.{bytes_again}
use Rattle.m3_journal_json.proofs.Values.{value_found}
use Rattle.m3_journal_json.proofs.writing.to_json.Goals as goal

pub returns-clause-reads : goal.returns-clause-reads
returns-clause-reads c =
    let reads : read (string_bytes c.in_ok-text.text) ≡ Some (journal_object c.args.journal.now.setup c.args.journal.now.entries.items c.args.audit.now.lines.items) =
    cc (c.in_ok-text.ensures.again, c.in_ok-setup.ensures, c.in_ok-entries.ensures, c.in_ok-audit.ensures, c.deref.ensures.value, c.deref-2.ensures.value) in
    let found : json_of c.bytes_of.result.items ≡ Some (journal_object c.args.journal.now.setup c.args.journal.now.entries.items c.args.audit.now.lines.items) =
    rw c.bytes_of.ensures.bytes (value_found (string_bytes c.in_ok-text.text) (journal_object c.args.journal.now.setup c.args.journal.now.entries.items c.args.audit.now.lines.items) c.bytes_of.ensures.utf8 reads) in
    found

pub returns-clause-again : goal.returns-clause-again
returns-clause-again c =
    let reads : read (string_bytes c.in_ok-text.text) ≡ Some (journal_object c.args.journal.now.setup c.args.journal.now.entries.items c.args.audit.now.lines.items) =
    cc (c.in_ok-text.ensures.again, c.in_ok-setup.ensures, c.in_ok-entries.ensures, c.in_ok-audit.ensures, c.deref.ensures.value, c.deref-2.ensures.value) in
    let found : json_of c.bytes_of.result.items ≡ Some (journal_object c.args.journal.now.setup c.args.journal.now.entries.items c.args.audit.now.lines.items) =
    rw c.bytes_of.ensures.bytes (value_found (string_bytes c.in_ok-text.text) (journal_object c.args.journal.now.setup c.args.journal.now.entries.items c.args.audit.now.lines.items) c.bytes_of.ensures.utf8 reads) in
    bytes_again c.args.journal.now.setup c.args.journal.now.entries.items c.args.audit.now.lines.items c.bytes_of.result.items found
