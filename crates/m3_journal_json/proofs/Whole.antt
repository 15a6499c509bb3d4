-- The three lists of a journal, one after the other.
use Rattle.std.proofs.Common.{◌≡◌, ℕ, List, Result, Ok, refl}
use Rattle.m3_base.specs.declared.journal.Audit.{Audit}
use Rattle.m3_base.specs.declared.journal.Journal.{Journal}
use Rattle.m3_script.specs.declared.script.ScriptRefusal.{ScriptRefusal}
use Rattle.m3_script.specs.declared.script.ScriptRefusal.TheVariants as refusals
use Rattle.m3_journal.specs.declared.reading.line.Line.TheVariants as line
use Rattle.m3_journal.specs.Reading.Journals.{DraftValue, empty_draft, then_next, after_mark, after_strings, setup_strings, entry_strings, audit_strings, journal_of_draft, journal_from}
use Rattle.m3_journal.specs.Reading.Refusals.{Parses}
use Rattle.m3_journal_json.specs.Reads.{journal_after_setup, journal_after_entries}
use Rattle.m3_script.specs.ParserView.{Refuses}

module _ (setup entries audit : List (List ℕ)) where
  pub after_setup : (r : Result (Journal × Audit) ScriptRefusal) (d : DraftValue) (x : DraftValue × ℕ) → d ≡ empty_draft
      → then_next (after_mark line.Head (d, 1)) (after_strings setup) ≡ Ok x → Parses r (journal_after_setup entries audit x) → Parses r (journal_from setup entries audit)
  unfolding setup_strings
  after_setup r d x is step given =
      let s : then_next (after_mark line.Head (empty_draft, 1)) (after_strings setup) ≡ Ok x = rw is at step in
      rw s given

  pub setup_refused : (e : ScriptRefusal) (d : DraftValue) → d ≡ empty_draft → Refuses e (then_next (after_mark line.Head (d, 1)) (after_strings setup)) → Refuses e (journal_from setup entries audit)
  unfolding setup_strings
  setup_refused refusals.NoMemory d is step = tt
  setup_refused (refusals.Bad line_number why) d is step = let s = rw is at step in rw s refl

  pub after_entries : (r : Result (Journal × Audit) ScriptRefusal) (x y : DraftValue × ℕ) → then_next (after_mark line.Begin x) (after_strings entries) ≡ Ok y
      → Parses r (journal_after_entries audit y) → Parses r (journal_after_setup entries audit x)
  unfolding entry_strings
  after_entries r x y step given = rw step given

  pub entries_refused : (e : ScriptRefusal) (x : DraftValue × ℕ) → Refuses e (then_next (after_mark line.Begin x) (after_strings entries)) → Refuses e (journal_after_setup entries audit x)
  unfolding entry_strings
  entries_refused refusals.NoMemory x step = tt
  entries_refused (refusals.Bad line_number why) x step = rw step refl

  pub after_audit : (r : Result (Journal × Audit) ScriptRefusal) (x y : DraftValue × ℕ) → then_next (after_mark line.End x) (after_strings audit) ≡ Ok y
      → Parses r (journal_of_draft y) → Parses r (journal_after_entries audit x)
  unfolding audit_strings
  after_audit r x y step given = rw step given

  pub audit_refused : (e : ScriptRefusal) (x : DraftValue × ℕ) → Refuses e (then_next (after_mark line.End x) (after_strings audit)) → Refuses e (journal_after_entries audit x)
  unfolding audit_strings
  audit_refused refusals.NoMemory x step = tt
  audit_refused (refusals.Bad line_number why) x step = rw step refl
