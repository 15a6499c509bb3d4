-- Journals read line by line, with the first line that is refused and its first cause.
use Rattle.std.specs.Prelude.{ℕ, ◌+◌, nat_lt, not, Bool, if◌then◌else◌, List, [], ◌∷◌, ◌++◌, length, codes, drop, Option, Some, None, Result, Ok, Err}
use Rattle.std.specs.List.{list_all}
use Rattle.std.specs.Str.{bytes_eq}
use Rattle.std.specs.Str.Lines.{lines}
use Rattle.m3_base.specs.declared.event.Entry.{Entry}
use Rattle.m3_base.specs.declared.journal.AuditLine.{AuditLine}
use Rattle.m3_base.specs.declared.setup_line.SetupLine.{SetupLine}
use Rattle.m3_base.specs.Setup.Rules.{SetupValue, facts_of, is_machine, breaks_rule}
use Rattle.m3_text.specs.declared.hexes.HexCase.{HexCase}
use Rattle.m3_text.specs.declared.refusal.Why.{Why}
use Rattle.m3_text.specs.declared.refusal.Why.TheVariants as why
use Rattle.m3_text.specs.Lines.{words, is_plain}
use Rattle.m3_text.specs.Refusable.{◌>>=◌}
use Rattle.m3_text.specs.LineForm.{word, matches}
use Rattle.m3_script.specs.ScriptText.{Refused, state_with_machine}
use Rattle.m3_script.specs.Setups.{machine_of, setup_line_of}
use Rattle.m3_journal.specs.declared.reading.line.Line.{Line}
use Rattle.m3_journal.specs.declared.reading.draft.Stage.{Stage}
use Rattle.m3_journal.specs.Reading.Audits.{audit_line_of}
use Rattle.m3_journal.specs.Reading.Entries.{unless_form, entry_of}

-- a journal and the closing lines that audit it
pub record JournalValue : Type 0 where
  pub setup : SetupValue
  pub entries : List Entry
  pub audit : List AuditLine

-- what the lines so far say
pub record DraftValue : Type 0 where
  pub stage : Stage
  pub setup : Option SetupValue
  pub entries : List Entry
  pub audit : List AuditLine

abbrev pub empty_draft : DraftValue
empty_draft = record { stage = Stage.Empty; setup = None; entries = []; audit = [] }

-- ---- the forms of lines

unfoldable pub setup_or_audit_of : List (List ℕ) → Result Line Why
setup_or_audit_of ws =
    if bytes_eq (word 0 ws) (codes "audit") then (audit_line_of ws >>= λ line. Ok (Line.Audit line))
    else if bytes_eq (word 0 ws) (codes "machine") then (machine_of (drop 1 ws) >>= λ x. Ok (Line.Machine x.0 x.1))
    else (setup_line_of HexCase.Lower ws >>= λ line. Ok (Line.Setup line))

-- a line that is no entry
unfoldable pub other_line_of : List (List ℕ) → Result Line Why
other_line_of ws =
    if matches (codes "m3x" ∷ codes "journal" ∷ codes "1" ∷ []) ws then Ok Line.Head
    else if matches (codes "begin" ∷ []) ws then Ok Line.Begin
    else if matches (codes "end" ∷ []) ws then Ok Line.End
    else setup_or_audit_of ws

unfoldable pub line_of : List (List ℕ) → Result Line Why
line_of ws = unless_form (entry_of ws >>= λ entry. Ok (Line.Entry entry)) (other_line_of ws)

-- no form has more than 21 words
unfoldable pub line_of_words : List (List ℕ) → Result Line Why
line_of_words ws = if nat_lt 21 (length ws) then Err why.Form else line_of ws

-- a byte other than space and the visible ASCII characters makes a line bad
unfoldable pub line_of_bytes : List ℕ → Result Line Why
line_of_bytes line = if list_all is_plain line then line_of_words (words line) else Err why.Form

-- ---- which line may stand where

abbrev pub longer_setup : Option SetupValue → SetupLine → Result SetupValue Why
longer_setup None line = Err why.Place
longer_setup (Some x) line =
    if breaks_rule line (facts_of x) then Err why.Rule else Ok (record x { lines = x.lines ++ line ∷ [] })

abbrev pub draft_with_machine : DraftValue → Line → Result DraftValue Why
draft_with_machine d (Line.Machine tiles memory) =
    state_with_machine tiles memory >>= λ x. Ok (record d { stage = Stage.InSetup; setup = Some x })
draft_with_machine d line = Err why.Place

abbrev pub draft_with_setup_line : DraftValue → Line → Result DraftValue Why
draft_with_setup_line d (Line.Setup line) = longer_setup d.setup line >>= λ x. Ok (record d { setup = Some x })
draft_with_setup_line d line = Err why.Place

-- the entry after the 2,097,152nd is refused
abbrev pub draft_with_entry : DraftValue → Line → Result DraftValue Why
draft_with_entry d (Line.Entry entry) =
    if nat_lt (length d.entries) 2097152 then Ok (record d { entries = d.entries ++ entry ∷ [] }) else Err why.Place
draft_with_entry d line = Err why.Place

abbrev pub draft_with_audit_line : DraftValue → Line → Result DraftValue Why
draft_with_audit_line d (Line.Audit line) = Ok (record d { audit = d.audit ++ line ∷ [] })
draft_with_audit_line d line = Err why.Place

-- a line that says something, at its stage
abbrev pub draft_at_stage : Stage → DraftValue → Line → Result DraftValue Why
draft_at_stage Stage.Empty d line = Err why.Place
draft_at_stage Stage.Headed d line = draft_with_machine d line
draft_at_stage Stage.InSetup d line = draft_with_setup_line d line
draft_at_stage Stage.Running d line = draft_with_entry d line
draft_at_stage Stage.Ended d line = draft_with_audit_line d line

abbrev pub draft_with_content : DraftValue → Line → Result DraftValue Why
draft_with_content d line = draft_at_stage d.stage d line

-- the stage that a line begins, where it may stand: the first line, `begin` and `end`
abbrev pub next_stage : Stage → Line → Option Stage
next_stage Stage.Empty Line.Head = Some Stage.Headed
next_stage Stage.InSetup Line.Begin = Some Stage.Running
next_stage Stage.Running Line.End = Some Stage.Ended
next_stage stage line = None

abbrev pub draft_or_stage : DraftValue → Line → Option Stage → Result DraftValue Why
draft_or_stage d line (Some stage) = Ok (record d { stage = stage })
draft_or_stage d line None = draft_with_content d line

unfoldable pub draft_with_line : DraftValue → Line → Result DraftValue Why
draft_with_line d line = draft_or_stage d line (next_stage d.stage line)

-- a line that only begins a stage
abbrev pub draft_in_stage : DraftValue → Option Stage → Result DraftValue Why
draft_in_stage d (Some stage) = Ok (record d { stage = stage })
draft_in_stage d None = Err why.Place

unfoldable pub draft_with_mark : DraftValue → Line → Result DraftValue Why
draft_with_mark d line = draft_in_stage d (next_stage d.stage line)

-- a string of JSON says something
abbrev pub draft_after_string : DraftValue → List ℕ → Result DraftValue Why
draft_after_string d line = line_of_bytes line >>= draft_with_content d

-- a line of a text
abbrev pub draft_after_line : DraftValue → List ℕ → Result DraftValue Why
draft_after_line d line = line_of_bytes line >>= draft_with_line d

-- ---- all lines

abbrev pub at_line : {A B : Type 0} → ℕ → Result A Why → (A → Result B Refused) → Result B Refused
at_line n (Ok x) next = next x
at_line n (Err why) next = Err (record { line = n; why = why })

-- lines one after the other, of which the first is the n-th; and the number after the last
unfoldable pub draft_after_all : (DraftValue → List ℕ → Result DraftValue Why) → List (List ℕ) → DraftValue → ℕ → Result (DraftValue × ℕ) Refused
draft_after_all step [] d n = Ok (d, n)
draft_after_all step (l ∷ ls) d n = at_line n (step d l) (λ e. draft_after_all step ls e (n + 1))

-- a journal that ends before its line `end` is refused at the line after its last
abbrev pub journal_of_stage : ℕ → Stage → Option SetupValue → DraftValue → Result JournalValue Refused
journal_of_stage n Stage.Ended (Some x) d = Ok (record { setup = x; entries = d.entries; audit = d.audit })
journal_of_stage n stage setup d = Err (record { line = n; why = why.Place })

abbrev pub journal_of_draft : DraftValue × ℕ → Result JournalValue Refused
journal_of_draft x = journal_of_stage x.1 x.0.stage x.0.setup x.0

abbrev pub journal_of_reading : Result (DraftValue × ℕ) Refused → Result JournalValue Refused
journal_of_reading (Ok x) = journal_of_draft x
journal_of_reading (Err e) = Err e

-- the journal that the bytes spell, or the first bad line with its first cause
abbrev pub journal_of : List ℕ → Result JournalValue Refused
journal_of bytes = journal_of_reading (draft_after_all draft_after_line (lines bytes) empty_draft 1)

-- ---- the same from three lists of lines, without the first line, `begin` and `end`

abbrev pub then_next : {A B : Type 0} → Result A Refused → (A → Result B Refused) → Result B Refused
then_next (Ok x) next = next x
then_next (Err e) next = Err e

abbrev pub after_mark : Line → DraftValue × ℕ → Result (DraftValue × ℕ) Refused
after_mark line x = at_line x.1 (draft_with_mark x.0 line) (λ d. Ok (d, x.1))

abbrev pub after_strings : List (List ℕ) → DraftValue × ℕ → Result (DraftValue × ℕ) Refused
after_strings ls x = draft_after_all draft_after_string ls x.0 x.1

unfoldable pub setup_strings : List (List ℕ) → Result (DraftValue × ℕ) Refused
setup_strings setup = then_next (after_mark Line.Head (empty_draft, 1)) (after_strings setup)

unfoldable pub entry_strings : List (List ℕ) → DraftValue × ℕ → Result (DraftValue × ℕ) Refused
entry_strings entries x = then_next (after_mark Line.Begin x) (after_strings entries)

unfoldable pub audit_strings : List (List ℕ) → DraftValue × ℕ → Result (DraftValue × ℕ) Refused
audit_strings audit x = then_next (after_mark Line.End x) (after_strings audit)

-- a refused line is named by its place in the three lists, counted through all of them
abbrev pub journal_from : List (List ℕ) → List (List ℕ) → List (List ℕ) → Result JournalValue Refused
journal_from setup entries audit =
    journal_of_reading (then_next (then_next (setup_strings setup) (entry_strings entries)) (audit_strings audit))
