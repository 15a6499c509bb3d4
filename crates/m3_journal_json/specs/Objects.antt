-- The JSON of a journal: an object with the keys `audit`, `entries`, `m3x` and `setup`. The number 1 stands at `m3x`, and
-- arrays of strings at the others: the lines of the text without its first line, `begin` and `end`.
use Rattle.std.specs.Prelude.{◌≡◌, ℕ, List, [], ◌∷◌, map, codes, length, Bool, true, false, ◌==◌, ◌&&◌, if◌then◌else◌, Option, Some, None, option_map, option_and_then, unwrap_or, Result, Ok, Err}
use Rattle.std.specs.Str.{is_utf8}
use Rattle.serde_json.specs.Data.{Data, number, unsigned, string, array, object, Items, no_items, item, Members, member, no_members}
use Rattle.serde_json.specs.Find.{get, as_number, as_u64, as_array, as_object, as_str}
use Rattle.serde_json.specs.Read.{read}
use Rattle.serde_json.specs.View.{items_of}
use Rattle.serde_json.specs.Written.{compact_text}
use Rattle.m3_base.specs.declared.event.Entry.{Entry}
use Rattle.m3_base.specs.declared.journal.AuditLine.{AuditLine}
use Rattle.m3_base.specs.Setup.Rules.{SetupValue}
use Rattle.m3_text.specs.declared.refusal.Why.{Why}
use Rattle.m3_text.specs.declared.refusal.Why.TheVariants as why
use Rattle.m3_script.specs.ScriptText.{Refused}
use Rattle.m3_journal.specs.Spelled.{IsSpelled}
use Rattle.m3_journal.specs.JournalText.{setup_lines, entry_line, audit_line}
use Rattle.m3_journal.specs.Reading.Journals.{JournalValue, journal_from}

-- ---- writing

abbrev pub string_array : List (List ℕ) → Data
string_array ls = array (items_of (map string ls))

-- the keys stand in the order of their letters
abbrev pub object_of : List (List ℕ) → List (List ℕ) → List (List ℕ) → Data
object_of setup entries audit =
    object (member (codes "audit") (string_array audit)
    (member (codes "entries") (string_array entries)
    (member (codes "m3x") (number (unsigned 1))
    (member (codes "setup") (string_array setup) no_members))))

abbrev pub journal_object : SetupValue → List Entry → List AuditLine → Data
journal_object x es ls = object_of (setup_lines x) (map entry_line es) (map audit_line ls)

-- with no space
abbrev pub json_text : SetupValue → List Entry → List AuditLine → List ℕ
json_text x es ls = compact_text (journal_object x es ls)

-- ---- reading

-- the value that UTF-8 text is
abbrev pub json_of : List ℕ → Option Data
json_of bytes = if is_utf8 bytes then read bytes else None

-- an object's keys, each once, since of a repeated key the last value stays
abbrev pub keys_of : Members → List (List ℕ)
keys_of no_members = []
keys_of (member k d ms) = k ∷ keys_of ms

abbrev pub key_count : Data → ℕ
key_count d = unwrap_or (option_map (λ ms. length (keys_of ms)) (as_object d)) 0

abbrev pub list_at : List ℕ → Data → Option Items
list_at key d = option_and_then as_array (get key d)

abbrev pub number_at : List ℕ → Data → Option ℕ
number_at key d = option_and_then as_u64 (option_and_then as_number (get key d))

-- an object with these four keys and no other, whatever their order in the text
abbrev pub is_journal : Data → Bool
is_journal d = (key_count d == 4) && (unwrap_or (number_at (codes "m3x") d) 0 == 1)

-- the items of the setup, the entries and the audit
abbrev pub lists_of : Data → Option (Items × Items × Items)
lists_of d =
    option_and_then (λ setup. option_and_then (λ entries. option_map (λ audit. (setup, entries, audit))
    (list_at (codes "audit") d)) (list_at (codes "entries") d)) (list_at (codes "setup") d)

abbrev pub parts_of : Data → Option (Items × Items × Items)
parts_of d = if is_journal d then lists_of d else None

abbrev pub is_text : Data → Bool
is_text (string s) = true
is_text d = false

abbrev pub are_texts : Items → Bool
are_texts no_items = true
are_texts (item d ds) = is_text d && are_texts ds

abbrev pub text_of : Data → List ℕ
text_of d = unwrap_or (as_str d) []

abbrev pub texts_of : Items → List (List ℕ)
texts_of no_items = []
texts_of (item d ds) = text_of d ∷ texts_of ds

-- line 1 with `Form` stands for any bytes that aren't JSON of this form
abbrev pub no_form : Result JournalValue Refused
no_form = Err (record { line = 1; why = why.Form })

abbrev pub journal_of_lists : Items × Items × Items → Result JournalValue Refused
journal_of_lists x =
    if are_texts x.0 && are_texts x.1 && are_texts x.2 then journal_from (texts_of x.0) (texts_of x.1) (texts_of x.2)
    else no_form

abbrev pub journal_of_parts : Option (Items × Items × Items) → Result JournalValue Refused
journal_of_parts (Some x) = journal_of_lists x
journal_of_parts None = no_form

abbrev pub journal_of_data : Option Data → Result JournalValue Refused
journal_of_data (Some d) = journal_of_parts (parts_of d)
journal_of_data None = no_form

-- the journal that the bytes are, or why they are none: a bad string is named by its place in the setup, the entries
-- and the audit, counted from 1 through all three
abbrev pub journal_of_json : List ℕ → Result JournalValue Refused
journal_of_json bytes = journal_of_data (json_of bytes)

-- a journal in its grammar is read back from these bytes
abbrev pub ReadsBack : SetupValue → List Entry → List AuditLine → List ℕ → Type 0
ReadsBack x es ls bytes = IsSpelled x es ls → journal_of_json bytes ≡ Ok (record { setup = x; entries = es; audit = ls })
