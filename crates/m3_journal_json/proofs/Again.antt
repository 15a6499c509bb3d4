-- The JSON of a journal is read back.
use Rattle.std.proofs.Common.{◌≡◌, ℕ, Bool, true, List, [], ◌∷◌, map, Option, Some, Result, Ok, refl, ap, ◌∙◌}
use Rattle.serde_json.specs.Data.{Data, string, Items}
use Rattle.serde_json.specs.View.{items_of}
use Rattle.m3_base.specs.declared.event.Entry.{Entry}
use Rattle.m3_base.specs.declared.journal.AuditLine.{AuditLine}
use Rattle.m3_base.specs.Setup.Rules.{SetupValue}
use Rattle.m3_journal.specs.Spelled.{IsSpelled}
use Rattle.m3_journal.specs.JournalText.{setup_lines, entry_line, audit_line}
use Rattle.m3_journal.specs.Reading.Journals.{JournalValue, journal_from}
use Rattle.m3_journal.proofs.JournalsAgain.{strings_again}
use Rattle.m3_journal_json.specs.Objects.{object_of, journal_object, are_texts, texts_of, json_of, journal_of_data, ReadsBack}

all_texts : (ls : List (List ℕ)) → are_texts (items_of (map string ls)) ≡ true
all_texts [] = refl
all_texts (l ∷ ls) = all_texts ls

same_texts : (ls : List (List ℕ)) → texts_of (items_of (map string ls)) ≡ ls
same_texts [] = refl
same_texts (l ∷ ls) = ap (λ (ts : List (List ℕ)). l ∷ ts) (same_texts ls)

-- the object has just its four keys
lists_again : (setup entries audit : List (List ℕ)) → journal_of_data (Some (object_of setup entries audit)) ≡ journal_from setup entries audit
lists_again setup entries audit = rw (all_texts setup, all_texts entries, all_texts audit, same_texts setup, same_texts entries, same_texts audit) refl

pub object_again : (x : SetupValue) (es : List Entry) (ls : List AuditLine) → IsSpelled x es ls
    → journal_of_data (Some (journal_object x es ls)) ≡ Ok (record { setup = x; entries = es; audit = ls })
object_again x es ls is = lists_again (setup_lines x) (map entry_line es) (map audit_line ls) ∙ strings_again x es ls is

pub bytes_again : (x : SetupValue) (es : List Entry) (ls : List AuditLine) (bytes : List ℕ) → json_of bytes ≡ Some (journal_object x es ls) → ReadsBack x es ls bytes
bytes_again x es ls bytes reads is = rw reads (object_again x es ls is)
