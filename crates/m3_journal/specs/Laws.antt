-- What is printed is read back.
use Rattle.std.specs.Prelude.{◌≡◌, List, map, Ok}
use Rattle.m3_base.specs.declared.event.Entry.{Entry}
use Rattle.m3_base.specs.declared.journal.AuditLine.{AuditLine}
use Rattle.m3_base.specs.declared.setup_line.SetupLine.{SetupLine}
use Rattle.m3_base.specs.Setup.Rules.{SetupValue}
use Rattle.m3_script.specs.InRange.{SetupInRange}
use Rattle.m3_journal.specs.declared.reading.line.Line.{Line}
use Rattle.m3_journal.specs.Spelled.{EntryInRange, AuditInRange, IsSpelled}
use Rattle.m3_journal.specs.JournalText.{setup_line, setup_lines, entry_line, audit_line, journal_text}
use Rattle.m3_journal.specs.Reading.Journals.{JournalValue, line_of_bytes, journal_of, journal_from}

abbrev pub SetupLinesAgain : Type 0
SetupLinesAgain = (l : SetupLine) → SetupInRange l → line_of_bytes (setup_line l) ≡ Ok (Line.Setup l)

abbrev pub EntriesAgain : Type 0
EntriesAgain = (e : Entry) → EntryInRange e → line_of_bytes (entry_line e) ≡ Ok (Line.Entry e)

abbrev pub AuditLinesAgain : Type 0
AuditLinesAgain = (l : AuditLine) → AuditInRange l → line_of_bytes (audit_line l) ≡ Ok (Line.Audit l)

-- ---- whole journals

abbrev pub JournalsAgain : Type 0
JournalsAgain = (x : SetupValue) (es : List Entry) (ls : List AuditLine) → IsSpelled x es ls
    → journal_of (journal_text x es ls) ≡ Ok (record { setup = x; entries = es; audit = ls })

-- by the lines of the setup, the entries and the audit, as they stand in JSON
abbrev pub StringsAgain : Type 0
StringsAgain = (x : SetupValue) (es : List Entry) (ls : List AuditLine) → IsSpelled x es ls
    → journal_from (setup_lines x) (map entry_line es) (map audit_line ls)
    ≡ Ok (record { setup = x; entries = es; audit = ls })
