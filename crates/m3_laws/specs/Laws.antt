-- The laws of runs: credits, records, what a revoke leaves, granted bytes, and causes of refusal.
use Rattle.std.specs.Prelude.{◌≡◌, ℕ, ◌<◌, ◌==◌, ◌&&◌, Bool, true, false, List, [], ◌∷◌, Option, Some, None, length}
use Rattle.m3_base.specs.declared.step.Step.{Step}
use Rattle.m3_base.specs.declared.packet.Fresh.{Fresh}
use Rattle.m3_base.specs.Ideal.Flights.{flight}
use Rattle.m3_base.specs.declared.ids.FlightId.{FlightId}
use Rattle.m3_base.specs.declared.message.Message.{Message}
use Rattle.m3_base.specs.declared.packet.Packet.{Packet}
use Rattle.m3_base.specs.declared.command.Refusal.{Refusal}
use Rattle.m3_base.specs.Ideal.Step.{At_issue, IdealResult, ideal_step, is_install_of}
use Rattle.m3_base.specs.Ideal.Context.{Context, endpoint, Endpoint, Free, Sends, Receives, Reaches}
use Rattle.m3_base.specs.Ideal.Landing.{grant_of, has_send, land_refusal}
use Rattle.m3_base.specs.Ideal.State.{is_number, is_open}
use Rattle.m3_base.specs.Ideal.State.{Grant, State, context_of, grant_in, holder_ep, parent_of, is_done}
use Rattle.m3_base.specs.Ideal.Opening.{opening}
use Rattle.m3_base.specs.Limits.{is_in_limits}
use Rattle.m3_base.specs.Setup.Rules.{SetupValue, IsValid}
use Rattle.m3_base.specs.Ideal.MessageTraces.{final}
use Rattle.m3_base.specs.Ideal.Credits.{credits, Granted}
use Rattle.std.specs.List.{list_any}
use Rattle.m3_base.specs.declared.packet.Perm.{Perm}
use Rattle.m3_base.specs.declared.command.Command.{Command}
use Rattle.m3_base.specs.declared.command.Reply.{Reply}
use Rattle.m3_base.specs.Ideal.ReceiveRecord.{is_full}
use Rattle.m3_base.specs.Ideal.Issue.{IssueOutcome, send_refusal, next_id}

abbrev pub limit_of : Fresh → ℕ
limit_of (Fresh.Send g to to_ep to_grant label size limit) = limit
limit_of (Fresh.Receive g slots size) = 0
limit_of (Fresh.Memory g start length perm) = 0

-- a step whose numbers are in their ranges: the endpoint of a grant line is one of 16, and its slots, sizes, credits or bytes keep their limits
abbrev pub Fits : Step → Type 0
Fits (Step.Make line) = (holder_ep line < 16) × (is_in_limits line ≡ true)
Fits t = Unit {0}

abbrev pub AllFit : List Step → Type 0
AllFit [] = Unit {0}
AllFit (t ∷ ts) = Fits t × AllFit ts

-- each live or closing grant has its limit of credits (0 for a grant that is no send grant)
abbrev pub CreditsAt : State → Type 0
CreditsAt s = (g : ℕ) (x : Grant) → grant_in s.grants g ≡ Some x → is_open x.standing ≡ true → credits g s ≡ limit_of x.fresh

-- no activity has a record of a grant that is closed or done
abbrev pub RecordsAt : State → Type 0
RecordsAt s =
    (g : ℕ) (x : Grant) (a ep : ℕ) (c : Context) → grant_in s.grants g ≡ Some x → is_open x.standing ≡ false
    → context_of a s.contexts ≡ Some c → is_number g (grant_of (endpoint c ep)) ≡ false

-- under a grant that is done all are done
abbrev pub ChildrenAt : State → Type 0
ChildrenAt s =
    (g p : ℕ) (x y : Grant) → grant_in s.grants g ≡ Some x → grant_in s.grants p ≡ Some y
    → parent_of x.line ≡ Some p → is_done y.standing ≡ true → is_done x.standing ≡ true

-- after every run from the opening of every valid setup
abbrev pub Always : (State → Type 0) → Type 0
Always P =
    (setup : SetupValue) (steps : List Step) → IsValid setup → AllFit steps
    → P (final (opening setup.memory setup.lines) steps)

abbrev pub CreditLaw : Type 0
CreditLaw = Always CreditsAt

abbrev pub RecordLaw : Type 0
RecordLaw = Always RecordsAt

abbrev pub ChildrenLaw : Type 0
ChildrenLaw = Always ChildrenAt

-- ---- after a revoke

-- the parent of g is p, and so on up to r
abbrev pub parent_at : Option Grant → Option ℕ
parent_at None = None
parent_at (Some x) = parent_of x.line

abbrev pub IsPath : List Grant → ℕ → ℕ → List ℕ → Type 0
IsPath gs r g [] = g ≡ r
IsPath gs r g (p ∷ ps) = (parent_at (grant_in gs g) ≡ Some p) × IsPath gs r p ps

abbrev pub is_close_of : ℕ → Packet → Bool
is_close_of g (Packet.Close id to ep h) = h == g
is_close_of g packet = false

-- a message that is no reply, a read or a write, by its grant
abbrev pub is_sent_through : ℕ → Packet → Bool
is_sent_through g (Packet.Message to ep h m) = (m.header.flags == 0) && (m.header.send == g)
is_sent_through g (Packet.Read id h place buffer) = h == g
is_sent_through g (Packet.Write id h place payload) = h == g
is_sent_through g (Packet.Credit id to h) = false
is_sent_through g (Packet.Answer id answer) = false
is_sent_through g (Packet.Install id to ep f) = false
is_sent_through g (Packet.Close id to ep h) = false

-- nothing is left of the grant g but its line, and what comes late for it is discarded or refused
pub record IsGone (s : State) (g : ℕ) (x : Grant) : Type 0 where
  pub done : is_done x.standing ≡ true
  pub records : (a ep : ℕ) (c : Context) → context_of a s.contexts ≡ Some c → is_number g (grant_of (endpoint c ep)) ≡ false
  pub installed : (id : FlightId) (p : Packet) → flight id s.flights ≡ Some p → is_install_of g p ≡ false
  pub closed : (id : FlightId) (p : Packet) → flight id s.flights ≡ Some p → is_close_of g p ≡ false
  -- nothing that was sent through it flies, so no byte is read or written through it
  pub sent : (id : FlightId) (p : Packet) → flight id s.flights ≡ Some p → is_sent_through g p ≡ false
  pub credit : (a : ℕ) (c : Context) → context_of a s.contexts ≡ Some c → has_send g c ≡ false
  pub reply : (a ep : ℕ) (c : Context) (m : Message)
      → context_of a s.contexts ≡ Some c → land_refusal g m (endpoint c ep) ≡ Some Refusal.Revoked

-- under a grant that is done all are gone
abbrev pub GoneAt : State → Type 0
GoneAt s =
    (r g : ℕ) (y x : Grant) (path : List ℕ) → grant_in s.grants r ≡ Some y → is_done y.standing ≡ true
    → IsPath s.grants r g path → grant_in s.grants g ≡ Some x → IsGone s g x

abbrev pub GoneLaw : Type 0
GoneLaw = Always GoneAt

-- whoever is under a grant that is done is gone after these steps too
abbrev pub StaysGone : State → List Step → Type 0
StaysGone s more =
    (r g : ℕ) (y x : Grant) (path : List ℕ) → grant_in s.grants r ≡ Some y → is_done y.standing ≡ true
    → IsPath s.grants r g path → grant_in (final s more).grants g ≡ Some x → IsGone (final s more) g x

-- from when a grant is done, all under it are gone
abbrev pub GoneForever : Type 0
GoneForever =
    (setup : SetupValue) (steps more : List Step) → IsValid setup → AllFit steps → AllFit more
    → StaysGone (final (opening setup.memory setup.lines) steps) more

-- ---- granted bytes

-- the bytes of each read and write that flies, and so of each that lands, are granted by its grant, with that permission
abbrev pub AccessAt : State → Type 0
AccessAt s =
    ((id x : FlightId) (g place : ℕ) (buffer : List ℕ)
    → flight id s.flights ≡ Some (Packet.Read x g place buffer) → Granted s g place (length buffer) Perm.R)
    × ((id x : FlightId) (g place : ℕ) (payload : List ℕ)
    → flight id s.flights ≡ Some (Packet.Write x g place payload) → Granted s g place (length payload) Perm.W)

abbrev pub AccessLaw : Type 0
AccessLaw = Always AccessAt

-- ---- causes of refusal

-- the codes that a send can get where it is issued
abbrev pub IsSendCause : Refusal → Type 0
IsSendCause Refusal.NoEndpoint = Unit {0}
IsSendCause Refusal.Revoked = Unit {0}
IsSendCause Refusal.BadReplyEndpoint = Unit {0}
IsSendCause Refusal.TooLarge = Unit {0}
IsSendCause Refusal.NoCredits = Unit {0}
IsSendCause why = ⊥

abbrev pub SendCauses : Type 0
SendCauses =
    (s : State) (a ep : ℕ) (payload : List ℕ) (to : Option ℕ) (n : IdealResult) (why : Refusal)
    → ideal_step s (Step.Issue a (Command.Send ep payload to)) ≡ Some n
    → n.word ≡ At_issue (IssueOutcome.Gives (Reply.Refused why)) → IsSendCause why

-- the first cause for which a send through this endpoint is refused
abbrev pub send_cause : Context → List ℕ → Option ℕ → Endpoint → Option Refusal
send_cause c payload to (Sends r) = send_refusal c r payload to
send_cause c payload to Free = Some Refusal.NoEndpoint
send_cause c payload to (Receives r) = Some Refusal.NoEndpoint
send_cause c payload to (Reaches r) = Some Refusal.NoEndpoint

abbrev pub told_of_send : Context → Option Refusal → IssueOutcome
told_of_send c None = IssueOutcome.Flies (next_id c)
told_of_send c (Some why) = IssueOutcome.Gives (Reply.Refused why)

-- each send that is issued is refused exactly with its first cause, and flies where it has none
abbrev pub SendsHaveCauses : Type 0
SendsHaveCauses =
    (s : State) (a ep : ℕ) (payload : List ℕ) (to : Option ℕ) (n : IdealResult) (c : Context)
    → context_of a s.contexts ≡ Some c
    → ideal_step s (Step.Issue a (Command.Send ep payload to)) ≡ Some n
    → n.word ≡ At_issue (told_of_send c (send_cause c payload to (endpoint c ep)))

abbrev pub has_no_slot : Endpoint → Bool
has_no_slot (Receives r) = is_full r
has_no_slot Free = false
has_no_slot (Sends r) = false
has_no_slot (Reaches r) = false

-- why a message is refused: the Install of its receive grant hasn't landed, or the buffer is full
abbrev pub land_cause : Bool → Bool → Option Refusal
land_cause true full = Some Refusal.Revoked
land_cause false true = Some Refusal.Full
land_cause false false = None

-- each message that is no reply and flies is refused exactly so, if it lands now
abbrev pub LandCausesAt : State → Type 0
LandCausesAt s =
    (id : FlightId) (to ep h : ℕ) (m : Message) (c : Context)
    → flight id s.flights ≡ Some (Packet.Message to ep h m)
    → (m.header.flags == 0) ≡ true
    → context_of to s.contexts ≡ Some c
    → land_refusal h m (endpoint c ep) ≡ land_cause (list_any (is_install_of h) s.flights) (has_no_slot (endpoint c ep))

abbrev pub LandCauses : Type 0
LandCauses = Always LandCausesAt
