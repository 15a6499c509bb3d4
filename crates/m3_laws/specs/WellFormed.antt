-- The half of the invariant on values: numbers in their ranges, and which command each packet belongs to.
use Rattle.std.specs.Prelude.{◌≡◌, ℕ, ◌+◌, ◌<◌, ◌≤◌, Bool, true, false, ◌&&◌, ◌==◌, nat_lt, nat_le, List, [], ◌∷◌, length, Option, Some, None, if◌then◌else◌}
use Rattle.m3_base.specs.declared.ids.FlightId.{FlightId}
use Rattle.m3_base.specs.declared.message.Message.{Message}
use Rattle.m3_base.specs.declared.packet.Packet.{Packet}
use Rattle.m3_base.specs.declared.packet.Fresh.{Fresh}
use Rattle.m3_base.specs.declared.command.Answer.{Answer}
use Rattle.m3_base.specs.declared.packet.Perm.{Perm}
use Rattle.m3_base.specs.Ideal.Flights.{kernel, flight, name_of}
use Rattle.m3_base.specs.Ideal.Context.{Kind, Sending, Replying, Reading, Writing, Flying, Fetched, Endpoint, Free, Sends, Receives, Reaches, Context, endpoint}
use Rattle.m3_base.specs.Ideal.Landing.{grant_of, flying_at}
use Rattle.m3_base.specs.Ideal.State.{Grant, State, holder, holder_ep, grant_in, context_of, is_number}
use Rattle.m3_base.specs.Ideal.Credits.{covers}
use Rattle.m3_base.specs.Ideal.Acceptance.{is_message, is_form, is_answer_for}

-- ---- numbers

-- a packet's numbers are in their ranges
abbrev pub is_well_formed : Packet → Bool
is_well_formed (Packet.Message to ep h m) = is_message m
is_well_formed (Packet.Credit id to h) = nat_lt 0 id.number && nat_lt id.issuer kernel
is_well_formed (Packet.Read id h place buffer) = nat_lt 0 id.number && nat_le (length buffer) 4096
is_well_formed (Packet.Write id h place payload) = nat_lt 0 id.number && nat_le (length payload) 4096
is_well_formed (Packet.Answer id answer) = nat_lt 0 id.number
is_well_formed (Packet.Install id to ep f) = (id.issuer == kernel) && (nat_lt 0 id.number && is_form f)
is_well_formed (Packet.Close id to ep h) = (id.issuer == kernel) && nat_lt 0 id.number

abbrev pub are_valid_messages : List Message → Bool
are_valid_messages [] = true
are_valid_messages (m ∷ ms) = is_message m && are_valid_messages ms

abbrev pub are_valid_fetched : List Fetched → Bool
are_valid_fetched [] = true
are_valid_fetched (f ∷ fs) = is_message f.message && are_valid_fetched fs

-- each queued message has its numbers in their ranges
abbrev pub has_valid_queues : Endpoint → Bool
has_valid_queues (Receives r) = are_valid_messages r.unread && are_valid_fetched r.fetched
has_valid_queues Free = true
has_valid_queues (Sends r) = true
has_valid_queues (Reaches r) = true

-- the bytes of a range lie in memory
abbrev pub is_inside : ℕ → Fresh → Bool
is_inside memory (Fresh.Memory g start len perm) = nat_le (start + len) memory
is_inside memory (Fresh.Send g to to_ep to_grant label size limit) = true
is_inside memory (Fresh.Receive g slots size) = true

-- ---- commands and their packets

-- a flying command's kind, and the grant of its endpoint
pub record CommandUse : Type 0 where
  pub kind : Kind
  pub grant : Option ℕ

abbrev pub use_by : Context → Option Flying → Option CommandUse
use_by c None = None
use_by c (Some f) = Some (record { kind = f.kind; grant = grant_of (endpoint c f.ep) })

abbrev pub use_in : ℕ → Option Context → Option CommandUse
use_in n None = None
use_in n (Some c) = use_by c (flying_at n c.flying)

-- what the command of this name uses
abbrev pub use_of : List Context → FlightId → Option CommandUse
use_of cs id = use_in id.number (context_of id.issuer cs)

abbrev pub is_sending : Kind → Bool
is_sending Sending = true
is_sending Replying = false
is_sending Reading = false
is_sending Writing = false

abbrev pub is_replying : Kind → Bool
is_replying Sending = false
is_replying Replying = true
is_replying Reading = false
is_replying Writing = false

abbrev pub is_reading : Kind → Bool
is_reading Sending = false
is_reading Replying = false
is_reading Reading = true
is_reading Writing = false

abbrev pub is_writing : Kind → Bool
is_writing Sending = false
is_writing Replying = false
is_writing Reading = false
is_writing Writing = true

abbrev pub uses_send : ℕ → Option CommandUse → Bool
uses_send g None = false
uses_send g (Some u) = is_sending u.kind && is_number g u.grant

abbrev pub uses_reply : Option CommandUse → Bool
uses_reply None = false
uses_reply (Some u) = is_replying u.kind

abbrev pub uses_read : ℕ → Option CommandUse → Bool
uses_read g None = false
uses_read g (Some u) = is_reading u.kind && is_number g u.grant

abbrev pub uses_write : ℕ → Option CommandUse → Bool
uses_write g None = false
uses_write g (Some u) = is_writing u.kind && is_number g u.grant

abbrev pub can_get : Answer → Option CommandUse → Bool
can_get answer None = false
can_get answer (Some u) = is_answer_for u.kind answer

-- the command of this use can have sent this packet, or get this answer
abbrev pub expects : Option CommandUse → Packet → Bool
expects u (Packet.Message to ep h m) = if m.header.flags == 0 then uses_send m.header.send u else uses_reply u
expects u (Packet.Read id h place buffer) = uses_read h u
expects u (Packet.Write id h place payload) = uses_write h u
expects u (Packet.Answer id answer) = can_get answer u
expects u (Packet.Credit id to h) = true
expects u (Packet.Install id to ep f) = true
expects u (Packet.Close id to ep h) = true

-- ---- packets and their grants

-- the grant's range has these bytes, with that permission
abbrev pub is_covered : ℕ → ℕ → Perm → ℕ → Option Grant → Bool
is_covered at len perm g None = false
is_covered at len perm g (Some x) = covers g at len perm x.fresh

abbrev pub is_held_at : ℕ → ℕ → Option Grant → Bool
is_held_at a ep None = false
is_held_at a ep (Some x) = (holder x.line == a) && (holder_ep x.line == ep)

-- a message goes where the form of its send grant says, and is no longer than that says
abbrev pub is_sent_by_form : ℕ → ℕ → ℕ → ℕ → Fresh → Bool
is_sent_by_form to ep h len (Fresh.Send g its_to its_ep its_grant label size limit) =
    (its_to == to) && ((its_ep == ep) && ((its_grant == h) && nat_le len size))
is_sent_by_form to ep h len (Fresh.Receive g slots size) = false
is_sent_by_form to ep h len (Fresh.Memory g start length perm) = false

abbrev pub is_sent_as : ℕ → ℕ → ℕ → ℕ → Option Grant → Bool
is_sent_as to ep h len None = false
is_sent_as to ep h len (Some x) = is_sent_by_form to ep h len x.fresh

-- a message goes where its send grant leads, a read or write has its bytes from its grant, and a Close goes where its grant is held
abbrev pub is_entitled : List Grant → Packet → Bool
is_entitled gs (Packet.Read id h place buffer) = is_covered place (length buffer) Perm.R h (grant_in gs h)
is_entitled gs (Packet.Write id h place payload) = is_covered place (length payload) Perm.W h (grant_in gs h)
is_entitled gs (Packet.Close id to ep h) = is_held_at to ep (grant_in gs h)
is_entitled gs (Packet.Message to ep h m) =
    if m.header.flags == 0 then is_sent_as to ep h (length m.payload) (grant_in gs m.header.send) else true
is_entitled gs (Packet.Credit id to h) = true
is_entitled gs (Packet.Answer id answer) = true
is_entitled gs (Packet.Install id to ep f) = true

-- ---- the whole

pub record WellFormedPacket (gs : List Grant) (cs : List Context) (p : Packet) : Type 0 where
  pub numbers : is_well_formed p ≡ true
  pub command : expects (use_of cs (name_of p)) p ≡ true
  pub entitled : is_entitled gs p ≡ true

pub record WellFormedContext (c : Context) : Type 0 where
  pub next : 0 < c.next
  pub queues : (ep : ℕ) → has_valid_queues (endpoint c ep) ≡ true

pub record WellFormedGrant (memory : ℕ) (x : Grant) : Type 0 where
  pub form : is_form x.fresh ≡ true
  pub inside : is_inside memory x.fresh ≡ true

pub record WellFormed (s : State) : Type 0 where
  pub contexts : (a : ℕ) (c : Context) → context_of a s.contexts ≡ Some c → WellFormedContext c
  pub packets : (id : FlightId) (p : Packet) → flight id s.flights ≡ Some p → WellFormedPacket s.grants s.contexts p
  pub grants : (g : ℕ) (x : Grant) → grant_in s.grants g ≡ Some x → WellFormedGrant (length s.memory) x
  pub orders : 0 < s.kernel_next
  pub few : (g : ℕ) (x : Grant) → grant_in s.grants g ≡ Some x → g ≤ 4096
  pub memory : length s.memory ≤ 1048576
