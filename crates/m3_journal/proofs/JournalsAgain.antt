-- Journals that are printed are read back.
use Rattle.std.proofs.Common.{◌≡◌, ℕ, ◌+◌, ◌<◌, ◌≤◌, Bool, true, false, not, ◌&&◌, leb, List, [], ◌∷◌, ◌++◌, length, map, Option, Some, None, Result, Ok, Err, refl, sym, ap, ◌∙◌, arith, codes, append_assoc, append-nil, length-append}
use Rattle.std.specs.Prelude.{nat_lt}
use Rattle.std.specs.List.{list_all, AllByRecursion}
use Rattle.std.specs.Str.Lines.{lines}
use Rattle.std.proofs.lemmas.Bool.Decides.{nat_tests}
use Rattle.std.proofs.lemmas.List.Folds.{list_all-append}
use Rattle.m3_base.specs.declared.event.Entry.{Entry}
use Rattle.m3_base.specs.declared.journal.AuditLine.{AuditLine}
use Rattle.m3_base.specs.declared.setup_line.SetupLine.{SetupLine}
use Rattle.m3_base.specs.Setup.Rules.{SetupValue, Facts, IsValid, AllKept, facts_of, facts_with_line, facts_with_lines, no_lines, breaks_rule, is_machine}
use Rattle.m3_base.specs.Limits.{is_within}
use Rattle.m3_base.proofs.SetupValidity.{noted_last}
use Rattle.m3_text.specs.declared.refusal.Why.{Why}
use Rattle.m3_text.specs.Lines.{is_plain}
use Rattle.m3_text.specs.Printing.{line_text, text_of_lines}
use Rattle.m3_text.specs.Refusable.{◌>>=◌}
use Rattle.m3_text.proofs.LinesAgain.{lines_again}
use Rattle.m3_script.specs.InRange.{MachineInRange, SetupInRange}
use Rattle.m3_script.specs.ScriptText.{Refused}
use Rattle.m3_journal.specs.declared.reading.line.Line.{Line}
use Rattle.m3_journal.specs.declared.reading.line.Line.TheVariants as line
use Rattle.m3_journal.specs.declared.reading.draft.Stage.{Stage}
use Rattle.m3_journal.specs.declared.reading.draft.Stage.TheVariants as stage
use Rattle.m3_journal.specs.SetupLines.{machine_words}
use Rattle.m3_journal.specs.Spelled.{EntryInRange, AuditInRange, IsSpelled}
use Rattle.m3_journal.specs.JournalText.{setup_line, setup_lines, entry_line, audit_line, journal_lines, journal_text}
use Rattle.m3_journal.specs.Reading.Journals.{DraftValue, JournalValue, empty_draft, line_of_bytes, draft_with_content, next_stage, draft_with_mark, draft_with_line, draft_after_line, draft_after_string, draft_after_all, at_line, journal_of_reading, journal_of_draft, then_next, journal_of, journal_from, setup_strings, entry_strings, audit_strings}
use Rattle.m3_journal.proofs.LinesAgain.{head_read, begin_read, end_read, machine_read, setup_read, entry_read, audit_read, machine_plain, setup_plain, entry_plain, audit_plain}
use Rattle.std.proofs.lemmas.Bool.{and_parts as split}

-- ---- lines that say something, whether they stand in a text or in JSON

abbrev is_mark : Line → Bool
is_mark line.Head = true
is_mark line.Begin = true
is_mark line.End = true
is_mark l = false

-- a reader that takes what a line says
abbrev TakesContent : (DraftValue → List ℕ → Result DraftValue Why) → Type 0
TakesContent step = (d : DraftValue) (bytes : List ℕ) (l : Line) → line_of_bytes bytes ≡ Ok l → is_mark l ≡ false → step d bytes ≡ draft_with_content d l

no_stage : (s : Stage) (l : Line) → is_mark l ≡ false → next_stage s l ≡ None
no_stage stage.Empty line.Head h = absurd cc
no_stage stage.InSetup line.Begin h = absurd cc
no_stage stage.Running line.End h = absurd cc
no_stage s l h = refl

text_takes : TakesContent draft_after_line
unfolding draft_with_line
text_takes d bytes l reads content = rw (reads, no_stage d.stage l content) refl

json_takes : TakesContent draft_after_string
json_takes d bytes l reads content = rw reads refl

abbrev taken_to : DraftValue → ℕ → Result (DraftValue × ℕ) Refused
taken_to d n = Ok (d, n)

abbrev headed : DraftValue
headed = record { stage = stage.Headed; setup = None; entries = []; audit = [] }

abbrev in_setup : SetupValue → DraftValue
in_setup x = record { stage = stage.InSetup; setup = Some x; entries = []; audit = [] }

abbrev running : SetupValue → List Entry → DraftValue
running x es = record { stage = stage.Running; setup = Some x; entries = es; audit = [] }

abbrev closed : SetupValue → List Entry → List AuditLine → DraftValue
closed x es ls = record { stage = stage.Ended; setup = Some x; entries = es; audit = ls }

abbrev setup_with : ℕ → ℕ → List SetupLine → SetupValue
setup_with tiles memory ls = record { tiles = tiles; memory = memory; lines = ls }

within : (low high n : ℕ) → is_within low high n ≡ true → (low ≤ n) × (n ≤ high)
within low high n h =
    let s = split (leb low n) (leb n high) h in
    (grind (arith, nat_tests, s.0), grind (arith, nat_tests, s.1))

machine_in_range : (tiles memory : ℕ) → is_machine tiles memory ≡ true → MachineInRange tiles memory
machine_in_range tiles memory h =
    let s = split (is_within 3 16 tiles) (is_within 1 1048576 memory) h in
    (within 3 16 tiles s.0, within 1 1048576 memory s.1)

module _ (step : DraftValue → List ℕ → Result DraftValue Why) where
  -- a line that is taken, and those after it
  next : (l : List ℕ) (ls : List (List ℕ)) (d e : DraftValue) (n : ℕ) → step d l ≡ Ok e → draft_after_all step (l ∷ ls) d n ≡ draft_after_all step ls e (n + 1)
  unfolding draft_after_all
  next l ls d e n is = rw is refl

  none_left : (d : DraftValue) (n : ℕ) → draft_after_all step [] d n ≡ taken_to d (n + 0)
  unfolding draft_after_all
  none_left d n = ap (taken_to d) (omega arith)

  more_at : (r : Result DraftValue Why) (n : ℕ) (f g : DraftValue → Result (DraftValue × ℕ) Refused) (k : DraftValue × ℕ → Result (DraftValue × ℕ) Refused)
      → ((e : DraftValue) → f e ≡ then_next (g e) k) → at_line n r f ≡ then_next (at_line n r g) k
  more_at (Ok e) n f g k h = h e
  more_at (Err why) n f g k h = refl

  -- some lines, and then the others
  more : (ls ms : List (List ℕ)) (d : DraftValue) (n : ℕ) → draft_after_all step (ls ++ ms) d n ≡ then_next (draft_after_all step ls d n) (λ x. draft_after_all step ms x.0 x.1)
  unfolding draft_after_all
  more [] ms d n = refl
  more (l ∷ ls) ms d n =
      more_at (step d l) n (λ e. draft_after_all step (ls ++ ms) e (n + 1)) (λ e. draft_after_all step ls e (n + 1)) (λ x. draft_after_all step ms x.0 x.1) (λ e. more ls ms e (n + 1))

  after : (ls ms : List (List ℕ)) (d e : DraftValue) (n m : ℕ) → draft_after_all step ls d n ≡ taken_to e m → draft_after_all step (ls ++ ms) d n ≡ draft_after_all step ms e m
  after ls ms d e n m is = more ls ms d n ∙ rw is refl

module _ (step : DraftValue → List ℕ → Result DraftValue Why) (takes : TakesContent step) where
  -- ---- the setup

  machine_step : (tiles memory : ℕ) → is_machine tiles memory ≡ true
      → step headed (line_text (machine_words tiles memory)) ≡ Ok (in_setup (setup_with tiles memory []))
  machine_step tiles memory h =
      takes headed (line_text (machine_words tiles memory)) (line.Machine tiles memory) (machine_read tiles memory (machine_in_range tiles memory h)) refl
      ∙ rw h refl

  setup_step : (x : SetupValue) (l : SetupLine) → SetupInRange l → breaks_rule l (facts_of x) ≡ false
      → step (in_setup x) (setup_line l) ≡ Ok (in_setup (record x { lines = x.lines ++ l ∷ [] }))
  setup_step x l r h = takes (in_setup x) (setup_line l) (line.Setup l) (setup_read l r) refl ∙ rw h refl

  setup_lines_taken : (tiles memory : ℕ) (ls done : List SetupLine) (n : ℕ) → AllByRecursion SetupInRange ls → AllKept ls (facts_of (setup_with tiles memory done))
      → draft_after_all step (map setup_line ls) (in_setup (setup_with tiles memory done)) n ≡ taken_to (in_setup (setup_with tiles memory (done ++ ls))) (n + length ls)
  setup_lines_taken tiles memory [] done n are kept = rw (append-nil done) (none_left step (in_setup (setup_with tiles memory done)) n)
  setup_lines_taken tiles memory (l ∷ ls) done n are kept =
      let here = next step (setup_line l) (map setup_line ls) (in_setup (setup_with tiles memory done)) (in_setup (setup_with tiles memory (done ++ l ∷ []))) n (setup_step (setup_with tiles memory done) l are.0 kept.0) in
      let kept_on : AllKept ls (facts_of (setup_with tiles memory (done ++ l ∷ []))) = rw (noted_last done l (no_lines tiles memory)) kept.1.1 in
      let there = setup_lines_taken tiles memory ls (done ++ l ∷ []) (n + 1) are.1 kept_on in
      let count : (n + 1) + length ls ≡ n + length (l ∷ ls) = omega arith in
      here ∙ rw (append_assoc done (l ∷ []) ls, count) at there

  pub setup_part : (x : SetupValue) (n : ℕ) → IsValid x → AllByRecursion SetupInRange x.lines
      → draft_after_all step (setup_lines x) headed n ≡ taken_to (in_setup x) ((n + 1) + length x.lines)
  setup_part x n valid are =
      next step (line_text (machine_words x.tiles x.memory)) (map setup_line x.lines) headed (in_setup (setup_with x.tiles x.memory [])) n (machine_step x.tiles x.memory valid.machine)
      ∙ setup_lines_taken x.tiles x.memory x.lines [] (n + 1) are valid.lines

  -- ---- entries

  entry_step : (x : SetupValue) (es : List Entry) (e : Entry) → EntryInRange e → length es < 2097152
      → step (running x es) (entry_line e) ≡ Ok (running x (es ++ e ∷ []))
  entry_step x es e r lt =
      let room : nat_lt (length es) 2097152 ≡ true = grind (arith, nat_tests, lt) in
      takes (running x es) (entry_line e) (line.Entry e) (entry_read e r) refl ∙ rw room refl

  entries_taken : (x : SetupValue) (es done : List Entry) (n : ℕ) → AllByRecursion EntryInRange es → length done + length es ≤ 2097152
      → draft_after_all step (map entry_line es) (running x done) n ≡ taken_to (running x (done ++ es)) (n + length es)
  entries_taken x [] done n are few = rw (append-nil done) (none_left step (running x done) n)
  entries_taken x (e ∷ es) done n are few =
      let here = next step (entry_line e) (map entry_line es) (running x done) (running x (done ++ e ∷ [])) n (entry_step x done e are.0 (omega arith)) in
      let len = length-append done (e ∷ []) in
      let there = entries_taken x es (done ++ e ∷ []) (n + 1) are.1 (omega arith) in
      let count : (n + 1) + length es ≡ n + length (e ∷ es) = omega arith in
      here ∙ rw (append_assoc done (e ∷ []) es, count) at there

  pub entry_part : (x : SetupValue) (es : List Entry) (n : ℕ) → AllByRecursion EntryInRange es → length es ≤ 2097152
      → draft_after_all step (map entry_line es) (running x []) n ≡ taken_to (running x es) (n + length es)
  entry_part x es n are few = entries_taken x es [] n are (omega arith)

  -- ---- the audit

  audit_step : (x : SetupValue) (es : List Entry) (ls : List AuditLine) (l : AuditLine) → AuditInRange l
      → step (closed x es ls) (audit_line l) ≡ Ok (closed x es (ls ++ l ∷ []))
  audit_step x es ls l r = takes (closed x es ls) (audit_line l) (line.Audit l) (audit_read l r) refl

  audit_taken_all : (x : SetupValue) (es : List Entry) (ls done : List AuditLine) (n : ℕ) → AllByRecursion AuditInRange ls
      → draft_after_all step (map audit_line ls) (closed x es done) n ≡ taken_to (closed x es (done ++ ls)) (n + length ls)
  audit_taken_all x es [] done n are = rw (append-nil done) (none_left step (closed x es done) n)
  audit_taken_all x es (l ∷ ls) done n are =
      let here = next step (audit_line l) (map audit_line ls) (closed x es done) (closed x es (done ++ l ∷ [])) n (audit_step x es done l are.0) in
      let there = audit_taken_all x es ls (done ++ l ∷ []) (n + 1) are.1 in
      let count : (n + 1) + length ls ≡ n + length (l ∷ ls) = omega arith in
      here ∙ rw (append_assoc done (l ∷ []) ls, count) at there

  pub audit_part : (x : SetupValue) (es : List Entry) (ls : List AuditLine) (n : ℕ) → AllByRecursion AuditInRange ls
      → draft_after_all step (map audit_line ls) (closed x es []) n ≡ taken_to (closed x es ls) (n + length ls)
  audit_part x es ls n are = audit_taken_all x es ls [] n are

-- ---- as text

mark_step : (d : DraftValue) (bytes : List ℕ) (l : Line) (s : Stage) → line_of_bytes bytes ≡ Ok l → next_stage d.stage l ≡ Some s → draft_after_line d bytes ≡ Ok (record d { stage = s })
unfolding draft_with_line
mark_step d bytes l s reads is = rw (reads, is) refl

pub map_plain : {X : Type 0} (f : X → List ℕ) (P : X → Type 0) → ((x : X) → P x → list_all is_plain (f x) ≡ true)
    → (xs : List X) → AllByRecursion P xs → list_all (list_all is_plain) (map f xs) ≡ true
map_plain f P plain [] are = refl
map_plain f P plain (x ∷ xs) are = rw (plain x are.0, map_plain f P plain xs are.1) refl

pub setup_lines_plain : (x : SetupValue) → IsValid x → AllByRecursion SetupInRange x.lines → list_all (list_all is_plain) (setup_lines x) ≡ true
setup_lines_plain x valid are =
    rw (machine_plain x.tiles x.memory (machine_in_range x.tiles x.memory valid.machine), map_plain setup_line SetupInRange setup_plain x.lines are) refl

lines_plain : (x : SetupValue) (es : List Entry) (ls : List AuditLine) → IsSpelled x es ls → list_all (list_all is_plain) (journal_lines x es ls) ≡ true
lines_plain x es ls is =
    rw (
      list_all-append (list_all is_plain) ((codes "m3x journal 1" ∷ setup_lines x) ++ (codes "begin" ∷ map entry_line es)) (codes "end" ∷ map audit_line ls),
      list_all-append (list_all is_plain) (codes "m3x journal 1" ∷ setup_lines x) (codes "begin" ∷ map entry_line es),
      setup_lines_plain x is.rules is.setup,
      map_plain entry_line EntryInRange entry_plain es is.entries,
      map_plain audit_line AuditInRange audit_plain ls is.audit,
    ) refl

text_taken : (x : SetupValue) (es : List Entry) (ls : List AuditLine) → IsSpelled x es ls
    → (m : ℕ) × (draft_after_all draft_after_line (journal_lines x es ls) empty_draft 1 ≡ taken_to (closed x es ls) m)
text_taken x es ls is =
    let n1 = (2 + 1) + length x.lines in
    let n2 = (n1 + 1) + length es in
    let n3 = (n2 + 1) + length ls in
    let first : draft_after_all draft_after_line (codes "m3x journal 1" ∷ setup_lines x) empty_draft 1 ≡ taken_to (in_setup x) n1 =
    next draft_after_line (codes "m3x journal 1") (setup_lines x) empty_draft headed 1 (mark_step empty_draft (codes "m3x journal 1") line.Head stage.Headed head_read refl)
    ∙ setup_part draft_after_line text_takes x 2 is.rules is.setup in
    let second : draft_after_all draft_after_line (codes "begin" ∷ map entry_line es) (in_setup x) n1 ≡ taken_to (running x es) n2 =
    next draft_after_line (codes "begin") (map entry_line es) (in_setup x) (running x []) n1 (mark_step (in_setup x) (codes "begin") line.Begin stage.Running begin_read refl)
    ∙ entry_part draft_after_line text_takes x es (n1 + 1) is.entries is.few in
    let third : draft_after_all draft_after_line (codes "end" ∷ map audit_line ls) (running x es) n2 ≡ taken_to (closed x es ls) n3 =
    next draft_after_line (codes "end") (map audit_line ls) (running x es) (closed x es []) n2 (mark_step (running x es) (codes "end") line.End stage.Ended end_read refl)
    ∙ audit_part draft_after_line text_takes x es ls (n2 + 1) is.audit in
    let both_parts : draft_after_all draft_after_line ((codes "m3x journal 1" ∷ setup_lines x) ++ (codes "begin" ∷ map entry_line es)) empty_draft 1 ≡ taken_to (running x es) n2 =
    after draft_after_line (codes "m3x journal 1" ∷ setup_lines x) (codes "begin" ∷ map entry_line es) empty_draft (in_setup x) 1 n1 first ∙ second in
    (n3, after draft_after_line ((codes "m3x journal 1" ∷ setup_lines x) ++ (codes "begin" ∷ map entry_line es)) (codes "end" ∷ map audit_line ls) empty_draft (running x es) 1 n2 both_parts ∙ third)

pub journal_again : (x : SetupValue) (es : List Entry) (ls : List AuditLine) → IsSpelled x es ls
    → journal_of (journal_text x es ls) ≡ Ok (record { setup = x; entries = es; audit = ls })
journal_again x es ls is =
    let taken_all = text_taken x es ls is in
    rw (lines_again (journal_lines x es ls) (lines_plain x es ls is), taken_all.1) refl

-- ---- as three lists of strings

pub strings_again : (x : SetupValue) (es : List Entry) (ls : List AuditLine) → IsSpelled x es ls
    → journal_from (setup_lines x) (map entry_line es) (map audit_line ls) ≡ Ok (record { setup = x; entries = es; audit = ls })
unfolding setup_strings entry_strings audit_strings draft_with_mark
strings_again x es ls is =
    let n1 = (1 + 1) + length x.lines in
    let n2 = n1 + length es in
    rw (
      setup_part draft_after_string json_takes x 1 is.rules is.setup,
      entry_part draft_after_string json_takes x es n1 is.entries is.few,
      audit_part draft_after_string json_takes x es ls n2 is.audit,
    ) refl
