-- Lines that are printed are read as what they say.
use Rattle.std.proofs.Common.{◌≡◌, ℕ, ◌+◌, ◌<◌, ◌≤◌, Bool, true, false, List, [], ◌∷◌, ◌++◌, length, Result, Ok, Err, refl, ◌∙◌, ap, arith, codes, lit<}
use Rattle.std.specs.Prelude.{decimal, nat_lt}
use Rattle.std.specs.List.{list_all}
use Rattle.std.specs.Str.{bytes_eq}
use Rattle.std.proofs.lemmas.Bool.Decides.{nat_tests}
use Rattle.m3_base.specs.declared.event.Entry.{Entry}
use Rattle.m3_base.specs.declared.journal.AuditLine.{AuditLine}
use Rattle.m3_base.specs.declared.journal.AuditLine.TheVariants as audit
use Rattle.m3_base.specs.declared.order.GrantLine.TheVariants as grant
use Rattle.m3_base.specs.declared.setup_line.SetupLine.{SetupLine}
use Rattle.m3_base.specs.declared.setup_line.SetupLine.TheVariants as setup
use Rattle.m3_text.specs.declared.hexes.HexCase.TheVariants as case
use Rattle.m3_text.specs.declared.refusal.Why.{Why}
use Rattle.m3_text.specs.declared.refusal.Why.TheVariants as why
use Rattle.m3_text.specs.Lines.{words, is_plain, is_word}
use Rattle.m3_text.specs.Printing.{line_text}
use Rattle.m3_text.specs.Refusable.{◌>>=◌}
use Rattle.m3_text.specs.LineForm.{word}
use Rattle.m3_text.proofs.LinesAgain.{words_again, words_plain}
use Rattle.m3_script.specs.InRange.{MachineInRange, SetupInRange}
use Rattle.m3_script.specs.Setups.{machine_of, setup_line_of}
use Rattle.m3_script.proofs.SetupsAgain.{machine_again}
use Rattle.m3_journal.specs.declared.reading.line.Line.{Line}
use Rattle.m3_journal.specs.declared.reading.line.Line.TheVariants as line
use Rattle.m3_journal.specs.AuditLines.{audit_words}
use Rattle.m3_journal.specs.SetupLines.{machine_words, setup_words}
use Rattle.m3_journal.specs.Spelled.{EntryInRange, AuditInRange}
use Rattle.m3_journal.specs.JournalText.{setup_line, entry_line, audit_line}
use Rattle.m3_journal.specs.Reading.Audits.{audit_line_of}
use Rattle.m3_journal.specs.Reading.Entries.{unless_form, entry_of}
use Rattle.m3_journal.specs.Reading.Journals.{setup_or_audit_of, other_line_of, line_of, line_of_words, line_of_bytes}
use Rattle.m3_journal.proofs.ClearWords.{is_clear, clear_words}
use Rattle.m3_journal.proofs.EntriesAgain.{Cut, entry_cut, no_entry_in}
use Rattle.m3_journal.proofs.FormsAgain.{setup_again, audit_again, audit_clear, few_setup, few_audit, few_event}
use Rattle.m3_journal.proofs.OutcomesAgain.{outcome_clear}
use Rattle.m3_journal.proofs.VisibleWords.{machine_clear, setup_clear}

-- a line of words is read by its words
by_words : (ws : List (List ℕ)) (x : Line) → list_all is_word ws ≡ true → length ws ≤ 21 → line_of ws ≡ Ok x → line_of_bytes (line_text ws) ≡ Ok x
unfolding line_of_bytes line_of_words
by_words ws x visible few reads =
    let short : nat_lt 21 (length ws) ≡ false = grind (arith, nat_tests, few) in
    rw (words_plain ws visible, words_again ws visible, short) reads

is_line : (ws : List (List ℕ)) (x : Line) → list_all is_clear ws ≡ true → other_line_of ws ≡ Ok x → line_of ws ≡ Ok x
unfolding line_of
is_line ws x clear reads = rw (no_entry_in ws clear) reads

-- words without a colon are no entry, but another line
other : (ws : List (List ℕ)) (x : Line) → list_all is_clear ws ≡ true → length ws ≤ 21 → other_line_of ws ≡ Ok x → line_of_bytes (line_text ws) ≡ Ok x
other ws x clear few reads = by_words ws x (clear_words ws clear) few (is_line ws x clear reads)

is_head : other_line_of (codes "m3x" ∷ codes "journal" ∷ codes "1" ∷ []) ≡ Ok line.Head
unfolding other_line_of
is_head = refl

pub head_read : line_of_bytes (codes "m3x journal 1") ≡ Ok line.Head
head_read = other (codes "m3x" ∷ codes "journal" ∷ codes "1" ∷ []) line.Head refl (omega arith) is_head

is_begin : other_line_of (codes "begin" ∷ []) ≡ Ok line.Begin
unfolding other_line_of
is_begin = refl

pub begin_read : line_of_bytes (codes "begin") ≡ Ok line.Begin
begin_read = other (codes "begin" ∷ []) line.Begin refl (omega arith) is_begin

is_end : other_line_of (codes "end" ∷ []) ≡ Ok line.End
unfolding other_line_of
is_end = refl

pub end_read : line_of_bytes (codes "end") ≡ Ok line.End
end_read = other (codes "end" ∷ []) line.End refl (omega arith) is_end

machine_line : (tiles memory : ℕ) → MachineInRange tiles memory → other_line_of (machine_words tiles memory) ≡ Ok (line.Machine tiles memory)
unfolding other_line_of setup_or_audit_of
machine_line tiles memory r = rw (machine_again tiles memory r) refl

pub machine_read : (tiles memory : ℕ) → MachineInRange tiles memory → line_of_bytes (line_text (machine_words tiles memory)) ≡ Ok (line.Machine tiles memory)
machine_read tiles memory r = other (machine_words tiles memory) (line.Machine tiles memory) (machine_clear tiles memory r) (omega arith) (machine_line tiles memory r)

setup_other : (l : SetupLine) → SetupInRange l → other_line_of (setup_words l) ≡ Ok (line.Setup l)
unfolding other_line_of setup_or_audit_of
setup_other (setup.Act act tile) r = rw (setup_again (setup.Act act tile) r) refl
setup_other (setup.Quantum quantum) r = rw (setup_again (setup.Quantum quantum) r) refl
setup_other (setup.Grant (grant.Recv act ep slots size)) r = rw (setup_again (setup.Grant (grant.Recv act ep slots size)) r) refl
setup_other (setup.Grant (grant.Send act ep of label credits)) r = rw (setup_again (setup.Grant (grant.Send act ep of label credits)) r) refl
setup_other (setup.Grant (grant.Range act ep at len p)) r = rw (setup_again (setup.Grant (grant.Range act ep at len p)) r) refl
setup_other (setup.Grant (grant.Part act ep of at len p)) r = rw (setup_again (setup.Grant (grant.Part act ep of at len p)) r) refl
setup_other (setup.Files g) r = rw (setup_again (setup.Files g) r) refl
setup_other (setup.Item act c) r = rw (setup_again (setup.Item act c) r) refl
setup_other (setup.AwaitItem act ep) r = rw (setup_again (setup.AwaitItem act ep) r) refl
setup_other (setup.Writer act mem send reply chunk ring bytes) r = rw (setup_again (setup.Writer act mem send reply chunk ring bytes) r) refl
setup_other (setup.Reader act mem recv chunk ring fuel) r = rw (setup_again (setup.Reader act mem recv chunk ring fuel) r) refl
setup_other (setup.Boxed act logic fuel) r = rw (setup_again (setup.Boxed act logic fuel) r) refl

pub setup_read : (l : SetupLine) → SetupInRange l → line_of_bytes (setup_line l) ≡ Ok (line.Setup l)
setup_read l r = other (setup_words l) (line.Setup l) (setup_clear l r) (few_setup l) (setup_other l r)

audit_other : (l : AuditLine) → AuditInRange l → other_line_of (audit_words l) ≡ Ok (line.Audit l)
unfolding other_line_of setup_or_audit_of
audit_other (audit.Credit g held flying queued limit) r = rw (audit_again (audit.Credit g held flying queued limit) r) refl
audit_other (audit.Tile tile act) r = rw (audit_again (audit.Tile tile act) r) refl
audit_other (audit.Flights count) r = rw (audit_again (audit.Flights count) r) refl
audit_other (audit.Quiet quiet) r = rw (audit_again (audit.Quiet quiet) r) refl

pub audit_read : (l : AuditLine) → AuditInRange l → line_of_bytes (audit_line l) ≡ Ok (line.Audit l)
audit_read l r = other (audit_words l) (line.Audit l) (audit_clear l r) (few_audit l) (audit_other l r)

entry_is_line : (ws : List (List ℕ)) (e : Entry) → entry_of ws ≡ Ok e → line_of ws ≡ Ok (line.Entry e)
unfolding line_of
entry_is_line ws e reads = rw reads refl

pub entry_read : (e : Entry) → EntryInRange e → line_of_bytes (entry_line e) ≡ Ok (line.Entry e)
entry_read e r =
    let cut = entry_cut e r in
    let few : length cut.words ≤ 21 = omega (arith, cut.few, few_event e.event e.outcome.made, (outcome_clear e.outcome.said e.outcome.restore r.said r.restore).1) in
    rw cut.line (by_words cut.words (line.Entry e) cut.visible few (entry_is_line cut.words e cut.reads))

-- ---- they are plain

plain_words : (ws : List (List ℕ)) → list_all is_clear ws ≡ true → list_all is_plain (line_text ws) ≡ true
plain_words ws clear = words_plain ws (clear_words ws clear)

pub machine_plain : (tiles memory : ℕ) → MachineInRange tiles memory → list_all is_plain (line_text (machine_words tiles memory)) ≡ true
machine_plain tiles memory r = plain_words (machine_words tiles memory) (machine_clear tiles memory r)

pub setup_plain : (l : SetupLine) → SetupInRange l → list_all is_plain (setup_line l) ≡ true
setup_plain l r = plain_words (setup_words l) (setup_clear l r)

pub audit_plain : (l : AuditLine) → AuditInRange l → list_all is_plain (audit_line l) ≡ true
audit_plain l r = plain_words (audit_words l) (audit_clear l r)

pub entry_plain : (e : Entry) → EntryInRange e → list_all is_plain (entry_line e) ≡ true
entry_plain e r = let cut = entry_cut e r in rw cut.line (words_plain cut.words cut.visible)
