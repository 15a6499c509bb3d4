-- Legal journals: by the ideal machine alone, without places.
use Rattle.std.specs.Prelude.{◌≡◌, ℕ, ◌+◌, Bool, true, false, ⊤, ◌⊎◌, List, [], ◌∷◌, ◌++◌, length, Some, None}
use Rattle.m3_base.specs.declared.event.Entry.{Entry}
use Rattle.m3_base.specs.declared.event.Said.{Said}
use Rattle.m3_base.specs.declared.packet.Fresh.{Fresh}
use Rattle.m3_base.specs.declared.journal.AuditLine.{AuditLine}
use Rattle.m3_base.specs.declared.step.Step.{Step}
use Rattle.m3_base.specs.Ideal.State.{State, Grant, is_live}
use Rattle.m3_base.specs.Ideal.Step.{RunResult, ideal_run}
use Rattle.m3_base.specs.Journal.Entry.{Shows, EntryMatches, steps_of, next_state, state_after_entries}
use Rattle.m3_base.specs.Journal.OutcomeForms.{is_allowed_outcome}
use Rattle.m3_base.specs.Ideal.Credits.{credits_held, credits_flying, credits_queued}
use Rattle.m3_base.specs.Ideal.Opening.{opening}
use Rattle.m3_base.specs.Setup.Rules.{SetupValue}

-- ---- entries

abbrev pub IsLegalEntry : State → Entry → Type 0
IsLegalEntry s e = (is_allowed_outcome e.event e.outcome ≡ true) × EntryMatches s e

-- each outcome has a form of its event and is what the steps say
abbrev pub AreLegal : State → List Entry → Type 0
AreLegal s [] = ⊤
AreLegal s (e ∷ es) = IsLegalEntry s e × AreLegal (next_state s e) es

-- ---- the audit

-- the credits of a live send grant
abbrev pub credit_line : State → ℕ → Fresh → List AuditLine
credit_line s g (Fresh.Send h to to_ep to_grant label size limit) =
    AuditLine.Credit g (credits_held g s) (credits_flying g s) (credits_queued g s) limit ∷ []
credit_line s g f = []

abbrev pub credit_line_if : Bool → State → ℕ → Fresh → List AuditLine
credit_line_if true s g f = credit_line s g f
credit_line_if false s g f = []

-- of these grants, the first of which has the number g
abbrev pub credit_lines_from : State → ℕ → List Grant → List AuditLine
credit_lines_from s g [] = []
credit_lines_from s g (x ∷ xs) = credit_line_if (is_live x.standing) s g x.fresh ++ credit_lines_from s (g + 1) xs

abbrev pub credit_lines : State → List AuditLine
credit_lines s = credit_lines_from s 1 s.grants

abbrev pub flights_lines : State → List AuditLine
flights_lines s = AuditLine.Flights (length s.flights) ∷ []

-- of an audit the lines on credits, and those on flights
abbrev pub only_credits : List AuditLine → List AuditLine
only_credits [] = []
only_credits (AuditLine.Credit g h f q l ∷ ls) = AuditLine.Credit g h f q l ∷ only_credits ls
only_credits (l ∷ ls) = only_credits ls

abbrev pub only_flights : List AuditLine → List AuditLine
only_flights [] = []
only_flights (AuditLine.Flights n ∷ ls) = AuditLine.Flights n ∷ only_flights ls
only_flights (l ∷ ls) = only_flights ls

-- the lines on tiles and on quiet are not judged
pub record Audits (s : State) (lines : List AuditLine) : Type 0 where
  pub credits : only_credits lines ≡ credit_lines s
  pub flights : only_flights lines ≡ flights_lines s

-- ---- whole journals

abbrev pub opening_of : SetupValue → State
opening_of setup = opening setup.memory setup.lines

pub record Legal (setup : SetupValue) (entries : List Entry) (lines : List AuditLine) : Type 0 where
  pub entries_are : AreLegal (opening_of setup) entries
  pub audit_is : Audits (state_after_entries (opening_of setup) entries) lines

-- ---- why a journal isn't legal

pub data Fault : Type 0 where
  At_step At_reply At_audit : Fault

-- the entry's steps do not all exist
abbrev pub LacksStep : List Step → State → Type 0
LacksStep [] s = ⊥
LacksStep (t ∷ ts) s = ideal_run (t ∷ ts) s ≡ None

-- all of them exist and say something else
abbrev pub SaysElse : List Step → State → Said → Type 0
SaysElse [] s said = ⊥
SaysElse (t ∷ ts) s said = (r : RunResult) × (ideal_run (t ∷ ts) s ≡ Some r) × (Shows r.words said → ⊥)

abbrev pub Fails : State → Entry → Fault → Type 0
Fails s e At_step = (is_allowed_outcome e.event e.outcome ≡ false) ⊎ LacksStep (steps_of e.event e.outcome) s
Fails s e At_reply = (is_allowed_outcome e.event e.outcome ≡ true) × SaysElse (steps_of e.event e.outcome) s e.outcome.said
Fails s e At_audit = ⊥

-- the first entry that fails, counted from 1; the audit counts as one more entry
pub record FailsAt (s : State) (entries : List Entry) (n : ℕ) (why : Fault) : Type 0 where
  pub before : List Entry
  pub entry : Entry
  pub rest : List Entry
  pub parts : entries ≡ before ++ entry ∷ rest
  pub number : n ≡ length before + 1
  pub legal : AreLegal s before
  pub fails : Fails (state_after_entries s before) entry why

pub record FailsAudit (s : State) (entries : List Entry) (lines : List AuditLine) (n : ℕ) : Type 0 where
  pub number : n ≡ length entries + 1
  pub legal : AreLegal s entries
  pub differs : Audits (state_after_entries s entries) lines → ⊥

-- the journal isn't legal, and n and why say where and how
abbrev pub IllegalAt : SetupValue → List Entry → List AuditLine → ℕ → Fault → Type 0
IllegalAt setup entries lines n At_step = FailsAt (opening_of setup) entries n At_step
IllegalAt setup entries lines n At_reply = FailsAt (opening_of setup) entries n At_reply
IllegalAt setup entries lines n At_audit = FailsAudit (opening_of setup) entries lines n
