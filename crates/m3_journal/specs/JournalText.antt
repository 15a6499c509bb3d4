-- Journals as text: the setup, a line for each entry, and the audit.
use Rattle.std.specs.Prelude.{ℕ, List, ◌∷◌, ◌++◌, codes, map, String, string_bytes}
use Rattle.std.specs.declared.alloc.Global.{Global}
use Rattle.m3_base.specs.declared.event.Entry.{Entry}
use Rattle.m3_base.specs.declared.journal.AuditLine.{AuditLine}
use Rattle.m3_base.specs.declared.setup_line.SetupLine.{SetupLine}
use Rattle.m3_base.specs.Setup.Rules.{SetupValue}
use Rattle.m3_text.specs.Printing.{words_text, line_text, text_of_lines}
use Rattle.m3_journal.specs.AuditLines.{audit_words}
use Rattle.m3_journal.specs.Events.{event_words}
use Rattle.m3_journal.specs.Outcomes.{outcome_words}
use Rattle.m3_journal.specs.SetupLines.{machine_words, setup_words}

abbrev pub setup_line : SetupLine → List ℕ
setup_line l = line_text (setup_words l)

abbrev pub setup_lines : SetupValue → List (List ℕ)
setup_lines s = line_text (machine_words s.tiles s.memory) ∷ map setup_line s.lines

-- an event, a colon, a space and its outcome
abbrev pub entry_line : Entry → List ℕ
entry_line e = line_text (event_words e.event e.outcome.made) ++ codes ":" ++ words_text (outcome_words e.outcome)

abbrev pub audit_line : AuditLine → List ℕ
audit_line l = line_text (audit_words l)

abbrev pub journal_lines : SetupValue → List Entry → List AuditLine → List (List ℕ)
journal_lines setup entries audit =
    codes "m3x journal 1" ∷ setup_lines setup
    ++ codes "begin" ∷ map entry_line entries
    ++ codes "end" ∷ map audit_line audit

abbrev pub journal_text : SetupValue → List Entry → List AuditLine → List ℕ
journal_text setup entries audit = text_of_lines (journal_lines setup entries audit)

-- the bytes of texts
abbrev pub strings : List (String Global) → List (List ℕ)
strings texts = map (λ s. string_bytes s) texts
