-- What the readers return, compared with what is read.
use Rattle.std.specs.Prelude.{◌≡◌, ℕ, ◌≤◌, Bool, true, false, length, Result, Ok, Err, ⊤}
use Rattle.m3_base.specs.declared.event.Entry.{Entry}
use Rattle.m3_base.specs.declared.journal.Audit.{Audit}
use Rattle.m3_base.specs.declared.journal.Journal.{Journal}
use Rattle.m3_text.specs.declared.refusal.LineRefusal.{LineRefusal}
use Rattle.m3_text.specs.declared.refusal.Why.{Why}
use Rattle.m3_text.specs.declared.refusal.Why.TheVariants as why
use Rattle.m3_script.specs.declared.script.ScriptRefusal.{ScriptRefusal}
use Rattle.m3_script.specs.ScriptText.{Refused}
use Rattle.m3_journal.specs.declared.reading.draft.Draft.{Draft}
use Rattle.m3_journal.specs.Reading.Journals.{DraftValue, JournalValue}
use Rattle.m3_script.specs.ParserView.{Refuses}

abbrev pub is_form_cause : Why → Bool
is_form_cause why.Form = true
is_form_cause why.Number = false
is_form_cause why.Hex = false
is_form_cause why.Place = false
is_form_cause why.Rule = false

-- whether a reader found that the words fit no form
abbrev pub fits_no_form : Result Entry LineRefusal → Bool
fits_no_form (Ok entry) = false
fits_no_form (Err LineRefusal.NoMemory) = false
fits_no_form (Err (LineRefusal.Bad why)) = is_form_cause why

abbrev pub draft_value : Draft → DraftValue
draft_value d = record { stage = d.stage; setup = d.setup; entries = d.entries.items; audit = d.audit.items }

abbrev pub journal_value : Journal × Audit → JournalValue
journal_value x = record { setup = x.0.setup; entries = x.0.entries.items; audit = x.1.lines.items }

-- a reader gives the journal that is spelled, or names the bad line, unless memory ran out
abbrev pub Parses : Result (Journal × Audit) ScriptRefusal → Result JournalValue Refused → Type 0
Parses (Ok x) given = given ≡ Ok (journal_value x)
Parses (Err e) given = Refuses e given

-- a journal that was read has no more entries than a journal may have
abbrev pub AreFew : Result (Journal × Audit) ScriptRefusal → Type 0
AreFew (Ok x) = length x.0.entries.items ≤ 2097152
AreFew (Err e) = ⊤
