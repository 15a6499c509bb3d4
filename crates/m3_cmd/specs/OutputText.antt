-- How a journal is written.
use Rattle.std.specs.Prelude.{ℕ, List, [], ◌∷◌, ◌++◌}
use Rattle.m3_base.specs.declared.event.Entry.{Entry}
use Rattle.m3_base.specs.declared.journal.AuditLine.{AuditLine}
use Rattle.m3_base.specs.Setup.Rules.{SetupValue}
use Rattle.m3_journal.specs.JournalText.{journal_text}
use Rattle.m3_journal_json.specs.Objects.{json_text}
use Rattle.m3_cmd.specs.declared.words.Format.{Format}

-- as lines, or as JSON in one line
unfoldable pub output_text : Format → SetupValue → List Entry → List AuditLine → List ℕ
output_text Format.Text setup entries audit = journal_text setup entries audit
output_text Format.Json setup entries audit = json_text setup entries audit ++ 10 ∷ []
