-- The flight of each flying command, the messages that are being replied to, and the numbers of both.
use Rattle.std.specs.Prelude.{◌≡◌, ℕ, ◌+◌, ◌≤◌, Bool, true, false, ◌&&◌, ◌==◌, List, [], ◌∷◌, length, replicate, Option, Some, None}
use Rattle.std.specs.Option.{option_map}
use Rattle.m3_base.specs.Lists.Counting.{one, how_many}
use Rattle.m3_base.specs.declared.message.Message.{Message}
use Rattle.m3_base.specs.declared.packet.Fresh.{Fresh}
use Rattle.m3_base.specs.declared.packet.Packet.{Packet}
use Rattle.m3_base.specs.declared.packet.Perm.{Perm}
use Rattle.m3_base.specs.declared.ids.FlightId.{FlightId}
use Rattle.m3_base.specs.Ideal.Flights.{flight, name_of}
use Rattle.m3_base.specs.Ideal.Context.{Kind, Sending, Replying, Reading, Writing, Flying, Fetched, Endpoint, Free, Sends, Receives, Reaches, Context, endpoint}
use Rattle.m3_base.specs.Ideal.ReceiveRecord.{fetched_at, has_mark}
use Rattle.m3_base.specs.Ideal.Landing.{flying_at}
use Rattle.m3_base.specs.Ideal.State.{context_of}
use Rattle.m3_base.specs.Ideal.Credits.{covers}
use Rattle.m3_base.specs.Ideal.Acceptance.{is_answer_for}
use Rattle.m3_base.specs.Ideal.FlightNames.{Distinct}
use Rattle.m3_laws.specs.GrantInvariant.{form_of}
use Rattle.m3_laws.specs.WellFormed.{is_replying}

-- ---- what a packet has from the record, or from the message, of its command

-- the message that a send makes: all but its bytes, its number and its reply endpoint is the record's
pub record SentThrough (grant its_to its_ep its_grant its_label size : ℕ) (to ep h : ℕ) (m : Message) : Type 0 where
  pub act : to ≡ its_to
  pub endpoint : ep ≡ its_ep
  pub receive : h ≡ its_grant
  pub flags : m.header.flags ≡ 0
  pub send : m.header.send ≡ grant
  pub label : m.header.label ≡ its_label
  pub short : length m.payload ≤ size

abbrev pub IsSentBy : Option Fresh → ℕ → ℕ → ℕ → Message → Type 0
IsSentBy (Some (Fresh.Send grant its_to its_ep its_grant label size limit)) to ep h m =
    SentThrough grant its_to its_ep its_grant label size to ep h m
IsSentBy form to ep h m = ⊥

-- the reply m to a message: it goes to the reply endpoint that the message names, under the message's grant and label
pub record AnswersTo (message : Message) (to ep h : ℕ) (m : Message) : Type 0 where
  pub act : to ≡ message.header.sender
  pub endpoint : ep ≡ message.header.reply_ep
  pub receive : h ≡ message.header.reply
  pub flags : m.header.flags ≡ 1
  pub send : m.header.send ≡ message.header.send
  pub label : m.header.label ≡ message.header.label

abbrev pub IsReplyTo : Option Message → ℕ → ℕ → ℕ → Message → Type 0
IsReplyTo None to ep h m = ⊥
IsReplyTo (Some message) to ep h m = AnswersTo message to ep h m

-- these bytes lie in the record's range, and it allows the access
abbrev pub IsInRange : Option Fresh → ℕ → ℕ → ℕ → Perm → Type 0
IsInRange None h place len perm = ⊥
IsInRange (Some form) h place len perm = covers h place len perm form ≡ true

abbrev pub AreZeros : List ℕ → Type 0
AreZeros bytes = bytes ≡ replicate (length bytes) 0

-- ---- the flight of a command

-- the fetched message of this token
abbrev pub fetched_in : ℕ → Endpoint → Option Fetched
fetched_in t (Receives r) = fetched_at t r.fetched
fetched_in t Free = None
fetched_in t (Sends r) = None
fetched_in t (Reaches r) = None

abbrev pub message_of : Fetched → Message
message_of f = f.message

-- what a command of this kind and token sent from this endpoint, or an answer that it can get
abbrev pub IsFlightOf : Kind → ℕ → Endpoint → Packet → Type 0
IsFlightOf Sending t e (Packet.Message to ep h m) = IsSentBy (form_of e) to ep h m
IsFlightOf Replying t e (Packet.Message to ep h m) = IsReplyTo (option_map message_of (fetched_in t e)) to ep h m
IsFlightOf Reading t e (Packet.Read id h place buffer) = IsInRange (form_of e) h place (length buffer) Perm.R × AreZeros buffer
IsFlightOf Writing t e (Packet.Write id h place payload) = IsInRange (form_of e) h place (length payload) Perm.W
IsFlightOf kind t e (Packet.Answer id answer) = is_answer_for kind answer ≡ true
IsFlightOf kind t e p = ⊥

abbrev pub HasFlight : Flying → Endpoint → Option Packet → Type 0
HasFlight f e None = ⊥
HasFlight f e (Some p) = IsFlightOf f.kind f.token e p

-- each flying command of this context has its flight
abbrev pub AllFly : List Packet → Context → Type 0
AllFly fs c =
    (n : ℕ) (f : Flying) → flying_at n c.flying ≡ Some f
    → HasFlight f (endpoint c f.ep) (flight (record { issuer = c.act; number = n }) fs)

abbrev pub CommandsHaveFlights : List Context → List Packet → Type 0
CommandsHaveFlights cs fs = (a : ℕ) (c : Context) → context_of a cs ≡ Some c → AllFly fs c

-- ---- marks

-- the command replies to the message of this token, fetched from this endpoint
abbrev pub replies_to : ℕ → ℕ → Flying → Bool
replies_to ep t f = is_replying f.kind && ((f.ep == ep) && (f.token == t))

-- a message is marked exactly where a flying reply names it, and then one alone does
abbrev pub MarksAreReplies : Context → Type 0
MarksAreReplies c = (ep t : ℕ) → how_many (replies_to ep t) c.flying ≡ one (has_mark (fetched_in t (endpoint c ep)))

-- ---- numbers

-- the keys ascend, from low on and below high
abbrev pub Ascends : {X : Type 0} → (X → ℕ) → ℕ → List X → ℕ → Type 0
Ascends key low [] high = low ≤ high
Ascends key low (x ∷ xs) high = (low ≤ key x) × Ascends key (key x + 1) xs high

abbrev pub number_in : Flying → ℕ
number_in f = f.number

abbrev pub token_of : Fetched → ℕ
token_of f = f.token

abbrev pub TokensAscend : Endpoint → Type 0
TokensAscend (Receives r) = Ascends token_of 0 r.fetched r.next_token
TokensAscend Free = Unit {0}
TokensAscend (Sends r) = Unit {0}
TokensAscend (Reaches r) = Unit {0}

-- ---- the whole

-- what holds of one context, whatever flies
pub record ContextInOrder (c : Context) : Type 0 where
  pub numbers : Ascends number_in 0 c.flying c.next
  pub tokens : (ep : ℕ) → TokensAscend (endpoint c ep)
  pub marks : MarksAreReplies c

pub record CommandsInOrder (cs : List Context) (fs : List Packet) : Type 0 where
  pub contexts : (a : ℕ) (c : Context) → context_of a cs ≡ Some c → ContextInOrder c
  pub flights : CommandsHaveFlights cs fs

-- ---- what it gives

-- the command of a packet, and what the packet has from it
pub record CommandOf (cs : List Context) (p : Packet) : Type 0 where
  pub context : Context
  pub command : Flying
  pub issuer : context_of (name_of p).issuer cs ≡ Some context
  pub flies : flying_at (name_of p).number context.flying ≡ Some command
  pub flight : IsFlightOf command.kind command.token (endpoint context command.ep) p

-- all packets but credits and those of the kernel are of a flying command
abbrev pub HasCommand : List Context → Packet → Type 0
HasCommand cs (Packet.Credit id to h) = Unit {0}
HasCommand cs (Packet.Install id to ep f) = Unit {0}
HasCommand cs (Packet.Close id to ep h) = Unit {0}
HasCommand cs p = CommandOf cs p

-- commands and their packets, one for one: names of flights differ
pub record CommandsMatchFlights (cs : List Context) (fs : List Packet) : Type 0 where
  pub distinct : Distinct fs
  pub commands : CommandsHaveFlights cs fs
  pub packets : (id : FlightId) (p : Packet) → flight id fs ≡ Some p → HasCommand cs p
  pub reads : (id x : FlightId) (h place : ℕ) (buffer : List ℕ)
      → flight id fs ≡ Some (Packet.Read x h place buffer) → AreZeros buffer
  pub marks : (a : ℕ) (c : Context) → context_of a cs ≡ Some c → MarksAreReplies c
