-- What is written is read back.
use Rattle.std.specs.Prelude.{◌≡◌, List, Ok}
use Rattle.m3_base.specs.declared.event.Entry.{Entry}
use Rattle.m3_base.specs.declared.journal.AuditLine.{AuditLine}
use Rattle.m3_base.specs.Setup.Rules.{SetupValue}
use Rattle.m3_journal.specs.Spelled.{IsSpelled}
use Rattle.m3_journal_json.specs.Objects.{json_text, journal_of_json}

abbrev pub JsonAgain : Type 0
JsonAgain = (x : SetupValue) (es : List Entry) (ls : List AuditLine) → IsSpelled x es ls
    → journal_of_json (json_text x es ls) ≡ Ok (record { setup = x; entries = es; audit = ls })
