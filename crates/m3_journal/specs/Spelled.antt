-- Journals in the grammar of their text: the numbers are in the ranges of their lines, a payload has at most 8,192
-- bytes, the setup keeps its rules, a turn has its move exactly where it isn't idle, and an activity is restored by a
-- landing or a saving alone.
use Rattle.std.specs.Prelude.{◌≡◌, ℕ, ◌≤◌, Bool, true, false, not, List, length, Option, Some, None, is_some, IfSome, ⊤}
use Rattle.std.specs.List.{AllByRecursion}
use Rattle.m3_base.specs.declared.command.Answer.{Answer}
use Rattle.m3_base.specs.declared.event.Entry.{Entry}
use Rattle.m3_base.specs.declared.event.Event.{Event}
use Rattle.m3_base.specs.declared.event.Made.{Made}
use Rattle.m3_base.specs.declared.event.Said.{Said}
use Rattle.m3_base.specs.declared.ids.FlightId.{FlightId}
use Rattle.m3_base.specs.declared.journal.AuditLine.{AuditLine}
use Rattle.m3_base.specs.Setup.Rules.{SetupValue, IsValid}
use Rattle.m3_text.specs.ReadBack.{IsFlight, BytesWithin}
use Rattle.m3_script.specs.InRange.{ActInRange, TileInRange, IdInRange, WordInRange, SetupInRange, EventInRange, MoveInRange}
use Rattle.m3_base.specs.Journal.Entry.{is_idle}
use Rattle.m3_base.specs.Limits.{Within}

-- ---- outcomes

abbrev pub AnswerInRange : Answer → Type 0
AnswerInRange Answer.Sent = ⊤
AnswerInRange Answer.Replied = ⊤
AnswerInRange Answer.Written = ⊤
AnswerInRange (Answer.Bytes bytes) = BytesWithin 8192 bytes
AnswerInRange (Answer.Refused why) = ⊤

abbrev pub MessageInRange : ℕ → ℕ → ℕ → List ℕ → Type 0
MessageInRange token from label payload =
    WordInRange token × ActInRange from × Within 0 18446744073709551615 label × BytesWithin 8192 payload

abbrev pub OfGrantInRange : FlightId → ℕ → Type 0
OfGrantInRange id g = IsFlight id × IdInRange g

abbrev pub SaidInRange : Said → Type 0
SaidInRange (Said.Flying id) = IsFlight id
SaidInRange (Said.Message token from label payload) = MessageInRange token from label payload
SaidInRange (Said.ReplyMessage token from label payload) = MessageInRange token from label payload
SaidInRange Said.Nothing = ⊤
SaidInRange (Said.Acknowledged credit) = IfSome credit IsFlight
SaidInRange (Said.Refused why) = ⊤
SaidInRange Said.Awake = ⊤
SaidInRange Said.Yield = ⊤
SaidInRange Said.Asleep = ⊤
SaidInRange Said.Ended = ⊤
SaidInRange (Said.Idle why) = ⊤
SaidInRange (Said.Landed id) = IsFlight id
SaidInRange (Said.LandRefused id why) = IsFlight id
SaidInRange (Said.Answered id answer closed) = IsFlight id × AnswerInRange answer × IfSome closed IdInRange
SaidInRange (Said.Credited id g) = OfGrantInRange id g
SaidInRange (Said.Discarded id g) = OfGrantInRange id g
SaidInRange (Said.Installed id g) = OfGrantInRange id g
SaidInRange (Said.Closing id g) = OfGrantInRange id g
SaidInRange (Said.Closed id g) = OfGrantInRange id g
SaidInRange (Said.Bounced id) = IsFlight id
SaidInRange (Said.Routed id) = IsFlight id
SaidInRange (Said.Held id act) = IsFlight id × ActInRange act
SaidInRange (Said.Saving act) = ActInRange act
SaidInRange (Said.Saved act) = ActInRange act
SaidInRange (Said.Current act) = ActInRange act
SaidInRange (Said.Yielded act) = ActInRange act
SaidInRange (Said.Done g revoked) = IdInRange g × IfSome revoked IdInRange
SaidInRange (Said.Save act) = ActInRange act
SaidInRange (Said.No why) = ⊤
SaidInRange (Said.Granted g id held) = OfGrantInRange id g
SaidInRange (Said.Revoking g) = IdInRange g
SaidInRange (Said.CloseSent g id held) = OfGrantInRange id g
SaidInRange Said.Created = ⊤
SaidInRange Said.Extended = ⊤
SaidInRange Said.Removed = ⊤
SaidInRange (Said.Part of at len) = IdInRange of × WordInRange at × Within 1 4294967295 len
SaidInRange Said.Revoke = ⊤

-- a landing, or a saving
abbrev pub may_restore : Said → Bool
may_restore (Said.Landed id) = true
may_restore (Said.LandRefused id why) = true
may_restore (Said.Answered id answer closed) = true
may_restore (Said.Credited id g) = true
may_restore (Said.Discarded id g) = true
may_restore (Said.Installed id g) = true
may_restore (Said.Closing id g) = true
may_restore (Said.Closed id g) = true
may_restore (Said.Saved act) = true
may_restore said = false

abbrev pub RestoreInRange : Said → Option ℕ → Type 0
RestoreInRange said None = ⊤
RestoreInRange said (Some act) = (may_restore said ≡ true) × ActInRange act

-- ---- entries

abbrev pub IsPaired : Event → Option Made → Said → Type 0
IsPaired (Event.Turn act) made said = is_some made ≡ not (is_idle said)
IsPaired event made said = made ≡ None

pub record EntryInRange (e : Entry) : Type 0 where
  pub event : EventInRange e.event
  pub made : MoveInRange e.outcome.made
  pub said : SaidInRange e.outcome.said
  pub restore : RestoreInRange e.outcome.said e.outcome.restore
  pub paired : IsPaired e.event e.outcome.made e.outcome.said

-- ---- audits

abbrev pub AuditInRange : AuditLine → Type 0
AuditInRange (AuditLine.Credit g held flying queued limit) =
    IdInRange g × WordInRange held × WordInRange flying × WordInRange queued × WordInRange limit
AuditInRange (AuditLine.Tile tile act) = TileInRange tile × IfSome act ActInRange
AuditInRange (AuditLine.Flights count) = WordInRange count
AuditInRange (AuditLine.Quiet quiet) = ⊤

-- ---- whole journals

pub record IsSpelled (x : SetupValue) (es : List Entry) (ls : List AuditLine) : Type 0 where
  pub rules : IsValid x
  pub setup : AllByRecursion SetupInRange x.lines
  pub entries : AllByRecursion EntryInRange es
  pub few : length es ≤ 2097152
  pub audit : AllByRecursion AuditInRange ls
