-- What a verdict says of a journal.
use Rattle.std.specs.Prelude.{◌≡◌, List, length}
use Rattle.m3_base.specs.declared.event.Entry.{Entry}
use Rattle.m3_base.specs.declared.journal.AuditLine.{AuditLine}
use Rattle.m3_base.specs.Journal.Legal.{Legal, IllegalAt, Fault, At_step, At_reply, At_audit}
use Rattle.m3_base.specs.Setup.Rules.{SetupValue}
use Rattle.m3_ideal.specs.declared.verdict.Why.{Why}
use Rattle.m3_ideal.specs.declared.verdict.Verdict.{Verdict}

abbrev pub fault_of : Why → Fault
fault_of Why.Step = At_step
fault_of Why.Reply = At_reply
fault_of Why.Audit = At_audit

-- the journal is legal and has so many entries, or this entry is the first that fails
abbrev pub IsVerdict : SetupValue → List Entry → List AuditLine → Verdict → Type 0
IsVerdict setup entries lines (Verdict.Legal n) = (n ≡ length entries) × Legal setup entries lines
IsVerdict setup entries lines (Verdict.Illegal n why) = IllegalAt setup entries lines n (fault_of why)

-- of each journal there is one verdict at most
abbrev pub IsOnlyVerdict : SetupValue → List Entry → List AuditLine → Verdict → Type 0
IsOnlyVerdict setup entries lines v = (w : Verdict) → IsVerdict setup entries lines w → w ≡ v
