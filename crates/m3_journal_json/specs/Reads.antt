-- What the functions of the reader return, compared with what is read.
use Rattle.std.specs.Prelude.{◌≡◌, ℕ, List, [], map, true, Option, Some, None, Result, Ok, Err, ⊤}
use Rattle.serde_json.specs.Data.{Data}
use Rattle.serde_json.specs.View.{view}
use Rattle.serde_json.specs.declared.value.Value.{Value}
use Rattle.m3_text.specs.declared.refusal.Why.TheVariants as whys
use Rattle.m3_script.specs.declared.script.ScriptRefusal.{ScriptRefusal}
use Rattle.m3_script.specs.ScriptText.{Refused}
use Rattle.m3_journal.specs.Reading.Journals.{DraftValue, JournalValue, then_next, entry_strings, audit_strings, journal_of_reading}
use Rattle.m3_journal_json.specs.Objects.{text_of}
use Rattle.m3_script.specs.ParserView.{Refuses}

-- the texts of values
abbrev pub value_texts : List Value → List (List ℕ)
value_texts vs = map (λ v. text_of (view v)) vs

-- the journal whose setup, or whose setup and entries, were read
abbrev pub journal_after_setup : List (List ℕ) → List (List ℕ) → DraftValue × ℕ → Result JournalValue Refused
journal_after_setup entries audit x = journal_of_reading (then_next (entry_strings entries x) (audit_strings audit))

abbrev pub journal_after_entries : List (List ℕ) → DraftValue × ℕ → Result JournalValue Refused
journal_after_entries audit x = journal_of_reading (audit_strings audit x)

-- a value is read, or there is none, unless memory ran out
abbrev pub Finds : Result Value ScriptRefusal → Option Data → Type 0
Finds (Ok v) given = given ≡ Some (view v)
Finds (Err ScriptRefusal.NoMemory) given = ⊤
Finds (Err (ScriptRefusal.Bad line why)) given = (line ≡ 1) × (why ≡ whys.Form) × (given ≡ None)

-- a draft is left with the next line's number, unless a line is refused or memory ran out
abbrev pub Takes : Result ℕ ScriptRefusal → DraftValue → Result (DraftValue × ℕ) Refused → Type 0
Takes (Ok n) d given = given ≡ Ok (d, n)
Takes (Err e) d given = Refuses e given
