-- What the word `check` answers to bytes.
use Rattle.std.specs.Prelude.{◌≡◌, ◌⊎◌, ℕ, ◌==◌, Bool, if◌then◌else◌, slice_index, List, [], ◌∷◌, ◌++◌, Result, Ok, Err, codes, decimal}
use Rattle.m3_script.specs.ScriptText.{Refused}
use Rattle.m3_journal.specs.Reading.Journals.{JournalValue, journal_of}
use Rattle.m3_journal_json.specs.Objects.{journal_of_json}
use Rattle.m3_ideal.specs.Check.Verdicts.{IsVerdict, IsOnlyVerdict}
use Rattle.m3_ideal.specs.declared.verdict.Verdict.{Verdict}
use Rattle.m3_ideal.specs.declared.verdict.Why.{Why}
use Rattle.m3_cmd.specs.BadLines.{bad_line}

-- ---- the journal

-- whether the first byte is `{`
abbrev pub is_json : List ℕ → Bool
is_json bytes = slice_index bytes 0 == 123

-- the journal that the bytes are: JSON where the first byte is `{`, else text
abbrev pub input_journal : List ℕ → Result JournalValue Refused
input_journal bytes = if is_json bytes then journal_of_json bytes else journal_of bytes

-- the bytes are no journal
pub record IsNoJournal (bytes : List ℕ) : Type 0 where
  pub refused : Refused
  pub refuses : input_journal bytes ≡ Err refused

-- the bytes are a journal on which this is the verdict
pub record IsJudged (bytes : List ℕ) (verdict : Verdict) : Type 0 where
  pub journal : JournalValue
  pub spelled : input_journal bytes ≡ Ok journal
  pub judged : IsVerdict journal.setup journal.entries journal.audit verdict

-- ---- the answer

abbrev pub why_word : Why → List ℕ
why_word Why.Step = codes "step"
why_word Why.Reply = codes "reply"
why_word Why.Audit = codes "audit"

abbrev pub verdict_line : Verdict → List ℕ
verdict_line (Verdict.Legal n) = codes "legal " ++ (decimal n ++ 10 ∷ [])
verdict_line (Verdict.Illegal n why) = codes "illegal " ++ (decimal n ++ (codes " " ++ (why_word why ++ 10 ∷ [])))

abbrev pub verdict_status : Verdict → ℕ
verdict_status (Verdict.Legal n) = 0
verdict_status (Verdict.Illegal n why) = 7

-- the text is the line of the only verdict on the journal that the bytes are
pub record IsVerdictOn (bytes : List ℕ) (status : ℕ) (text : List ℕ) : Type 0 where
  pub journal : JournalValue
  pub verdict : Verdict
  pub spelled : input_journal bytes ≡ Ok journal
  pub judged : IsVerdict journal.setup journal.entries journal.audit verdict
  pub only : IsOnlyVerdict journal.setup journal.entries journal.audit verdict
  pub is_status : status ≡ verdict_status verdict
  pub is_text : text ≡ verdict_line verdict

-- the text names the first bad line of bytes that are no journal
pub record IsBadJournal (bytes text : List ℕ) : Type 0 where
  pub refused : Refused
  pub refuses : input_journal bytes ≡ Err refused
  pub is_text : text ≡ bad_line refused

-- with 0 the journal is legal, with 7 it isn't; with 2 the bytes are none
abbrev pub IsCheckAnswer : List ℕ → ℕ → List ℕ → Type 0
IsCheckAnswer bytes status text = IsVerdictOn bytes status text ⊎ ((status ≡ 2) × IsBadJournal bytes text)
