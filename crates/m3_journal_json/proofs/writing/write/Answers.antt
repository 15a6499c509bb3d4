use Rattle.std.proofs.Common.{◌≡◌, refl}
use Rattle.serde_json.specs.View.{view}
use Rattle.m3_journal.specs.JournalText.{strings}
use Rattle.m3_journal_json.specs.Objects.{object_of}
use Rattle.m3_journal_json.proofs.Strings.{text_from_writer, again_from_writer}
use Rattle.m3_journal_json.proofs.writing.write.Goals as goal

pub returns-clause-text : goal.returns-clause-text
returns-clause-text c =
    let is : view c.in_ok-value.value ≡ object_of (strings c.args.setup.items) (strings c.args.entries.items) (strings c.args.audit.items) = rw c.in_ok-value.ensures (rw (c.in_ok-audit.ensures, c.in_ok-entries.ensures, c.in_ok-setup.ensures) refl) in
    text_from_writer c.to_string.result (view c.in_ok-value.value) (strings c.args.setup.items) (strings c.args.entries.items) (strings c.args.audit.items) is c.to_string.ensures.text

pub returns-clause-again : goal.returns-clause-again
returns-clause-again c =
    let is : view c.in_ok-value.value ≡ object_of (strings c.args.setup.items) (strings c.args.entries.items) (strings c.args.audit.items) = rw c.in_ok-value.ensures (rw (c.in_ok-audit.ensures, c.in_ok-entries.ensures, c.in_ok-setup.ensures) refl) in
    again_from_writer c.to_string.result (view c.in_ok-value.value) (strings c.args.setup.items) (strings c.args.entries.items) (strings c.args.audit.items) is c.to_string.ensures.reads_back
