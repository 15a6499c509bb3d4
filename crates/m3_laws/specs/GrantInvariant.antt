-- The half of the invariant on grants: their list, their records, Installs and Closes, queues, names and credits.
use Rattle.std.specs.Prelude.{◌≡◌, ℕ, ◌+◌, ◌<◌, ◌≤◌, Bool, true, false, not, ◌&&◌, ◌==◌, List, [], ◌∷◌, length, Option, Some, None}
use Rattle.m3_base.specs.Lists.Counting.{total, one, how_many}
use Rattle.m3_base.specs.declared.ids.FlightId.{FlightId}
use Rattle.m3_base.specs.declared.message.Message.{Message}
use Rattle.m3_base.specs.declared.packet.Packet.{Packet}
use Rattle.m3_base.specs.declared.packet.Fresh.{Fresh}
use Rattle.m3_base.specs.Ideal.Flights.{kernel, flight}
use Rattle.m3_base.specs.Ideal.Context.{Fetched, Endpoint, Free, Sends, Receives, Reaches, Context, endpoint, endpoint_at}
use Rattle.m3_base.specs.Ideal.Landing.{is_closing, has_closing, flying_at, is_record_of}
use Rattle.m3_base.specs.Ideal.State.{Grant, State, holder, holder_ep, parent_of, grant_in, parent_in, is_done, is_live, context_of, is_open, DistinctActs}
use Rattle.m3_base.specs.Ideal.GrantRules.{form}
use Rattle.m3_base.specs.Ideal.Step.{number_of, is_install_of}
use Rattle.m3_base.specs.Ideal.Credits.{credits, gives_back_in}
use Rattle.m3_base.specs.Ideal.FlightNames.{Apart, Distinct}
use Rattle.m3_laws.specs.CommandRecord.{CommandsHaveRecords}
use Rattle.m3_laws.specs.Laws.{limit_of, is_close_of}

-- ---- grants

-- an open grant whose Close wasn't sent
abbrev pub is_ready : Option Grant → Bool
is_ready None = false
is_ready (Some x) = is_open x.standing && not x.close_sent

abbrev pub KeepsOpen : List Grant → Option ℕ → Type 0
KeepsOpen gs None = Unit {0}
KeepsOpen gs (Some p) = is_ready (grant_in gs p) ≡ true

abbrev pub IsAfter : Option ℕ → ℕ → Type 0
IsAfter None g = Unit {0}
IsAfter (Some p) g = p < g

-- the grant g of the list gs
pub record GrantLawful (gs : List Grant) (g : ℕ) (x : Grant) : Type 0 where
  -- its record has the fields of its line
  pub fresh : form g x.line (parent_in gs (parent_of x.line)) ≡ Some x.fresh
  -- a parent is made before its children
  pub before : IsAfter (parent_of x.line) g
  -- children first
  pub above : is_done x.standing ≡ false → KeepsOpen gs (parent_of x.line)
  -- the Close of a live grant wasn't sent, that of a closed or done one was
  pub sent : x.close_sent ≡ true → is_live x.standing ≡ false
  pub shut : is_open x.standing ≡ false → x.close_sent ≡ true

abbrev pub GrantsLawful : List Grant → Type 0
GrantsLawful gs = (g : ℕ) (x : Grant) → grant_in gs g ≡ Some x → GrantLawful gs g x

-- ---- records, Installs and Closes

-- the records and Installs of g
abbrev pub record_count : ℕ → State → ℕ
record_count g s = total (λ c. how_many (is_record_of g) c.endpoints) s.contexts + how_many (is_install_of g) s.flights

-- the closing records and Closes of g
abbrev pub close_count : ℕ → State → ℕ
close_count g s = total (λ c. how_many (has_closing g) c.endpoints) s.contexts + how_many (is_close_of g) s.flights

abbrev pub is_open_grant : Option Grant → Bool
is_open_grant None = false
is_open_grant (Some x) = is_open x.standing

abbrev pub is_close_sent : Option Grant → Bool
is_close_sent None = false
is_close_sent (Some x) = is_open x.standing && x.close_sent

-- what a record says that never changes, but for its mark that it is closing
abbrev pub form_of : Endpoint → Option Fresh
form_of Free = None
form_of (Sends r) = Some (Fresh.Send r.grant r.to r.to_ep r.to_grant r.label r.size r.limit)
form_of (Receives r) = Some (Fresh.Receive r.grant r.slots r.size)
form_of (Reaches r) = Some (Fresh.Memory r.grant r.start r.length r.perm)

-- a grant with this form, held there
pub record HeldGrant (x : Grant) (a e : ℕ) (f : Fresh) : Type 0 where
  pub fresh : x.fresh ≡ f
  pub act : holder x.line ≡ a
  pub ep : holder_ep x.line ≡ e

abbrev pub IsHeldAt : Option Grant → ℕ → ℕ → Fresh → Type 0
IsHeldAt None a ep f = ⊥
IsHeldAt (Some x) a ep f = HeldGrant x a ep f

abbrev pub FormLawful : List Grant → ℕ → ℕ → Option Fresh → Type 0
FormLawful gs a ep None = Unit {0}
FormLawful gs a ep (Some f) = IsHeldAt (grant_in gs (number_of f)) a ep f

-- what of an endpoint no command, landing or answer changes
abbrev pub fixed_part : Endpoint → Option Fresh × Bool
fixed_part e = (form_of e, is_closing e)

-- a packet of an activity
abbrev pub IsData : Packet → Type 0
IsData (Packet.Install id to ep f) = ⊥
IsData (Packet.Close id to ep g) = ⊥
IsData p = Unit {0}

-- an Install's grant is held where it goes, and the endpoint there is free
abbrev pub InstallLawful : List Grant → List Context → Packet → Type 0
InstallLawful gs cs (Packet.Install id to ep f) =
    (ep < 16) × IsHeldAt (grant_in gs (number_of f)) to ep f × (form_of (endpoint_at (context_of to cs) ep) ≡ None)
InstallLawful gs cs p = Unit {0}

-- two grants that aren't done have no endpoint in common
abbrev pub SlotsLawful : List Grant → Type 0
SlotsLawful gs =
    (g h : ℕ) (x y : Grant) → grant_in gs g ≡ Some x → grant_in gs h ≡ Some y
    → is_done x.standing ≡ false → is_done y.standing ≡ false
    → holder x.line ≡ holder y.line → holder_ep x.line ≡ holder_ep y.line → g ≡ h

-- grants, their records, their Installs and their Closes
pub record RecordsMatchGrants (s : State) : Type 0 where
  pub distinct : Distinct s.flights
  pub cells : (a : ℕ) (c : Context) → context_of a s.contexts ≡ Some c → length c.endpoints ≡ 16
  -- each record is that of a grant that is held here
  pub records : (a : ℕ) (c : Context) → context_of a s.contexts ≡ Some c
      → (ep : ℕ) → FormLawful s.grants a ep (form_of (endpoint c ep))
  pub installs : (id : FlightId) (p : Packet) → flight id s.flights ≡ Some p → InstallLawful s.grants s.contexts p
  -- each open grant has one record or one Install, and no other grant has any
  pub presence : (g : ℕ) → record_count g s ≡ one (is_open_grant (grant_in s.grants g))
  -- its record is closing, or its Close flies, exactly where its Close was sent
  pub closings : (g : ℕ) → close_count g s ≡ one (is_close_sent (grant_in s.grants g))
  pub grants : GrantsLawful s.grants
  pub slots : SlotsLawful s.grants

-- ---- credits, replies and messages name their grants

-- g is a grant that the activity a holds
abbrev pub HolderIs : Option Grant → ℕ → Type 0
HolderIs None a = ⊥
HolderIs (Some x) a = holder x.line ≡ a

-- the sender's grant is a child of the receive grant h
abbrev pub ChildOf : Option Grant → ℕ → ℕ → Type 0
ChildOf None a h = ⊥
ChildOf (Some x) a h = (holder x.line ≡ a) × (parent_of x.line ≡ Some h)

abbrev pub SentTo : List Grant → ℕ → Message → Type 0
SentTo gs h m = m.header.flags ≡ 0 → ChildOf (grant_in gs m.header.send) m.header.sender h

abbrev pub AllSentTo : List Grant → ℕ → List Message → Type 0
AllSentTo gs h [] = Unit {0}
AllSentTo gs h (m ∷ ms) = SentTo gs h m × AllSentTo gs h ms

abbrev pub AllFetchedTo : List Grant → ℕ → List Fetched → Type 0
AllFetchedTo gs h [] = Unit {0}
AllFetchedTo gs h (f ∷ fs) = SentTo gs h f.message × AllFetchedTo gs h fs

abbrev pub QueueLawful : List Grant → Endpoint → Type 0
QueueLawful gs (Receives r) = AllSentTo gs r.grant r.unread × AllFetchedTo gs r.grant r.fetched
QueueLawful gs _ = Unit {0}

-- ---- contexts

-- ---- contexts and packets

pub record ContextLawful (gs : List Grant) (fs : List Packet) (c : Context) : Type 0 where
  pub act : c.act < kernel
  -- flying commands, by their numbers and records
  pub lone : length c.flying ≤ 1
  pub fresh : (n : ℕ) → c.next ≤ n → flying_at n c.flying ≡ None
  pub apart : (n : ℕ) → c.next ≤ n → Apart (record { issuer = c.act; number = n }) fs
  pub stands : CommandsHaveRecords c
  pub queues : (ep : ℕ) → QueueLawful gs (endpoint c ep)

abbrev pub PacketLawful : List Grant → List Context → Packet → Type 0
PacketLawful gs cs (Packet.Message to ep h m) =
    ((g : ℕ) → gives_back_in g m.header.number (context_of m.header.sender cs) ≡ (m.header.send == g))
    × SentTo gs h m
    × ((m.header.flags == 0) ≡ false → HolderIs (grant_in gs m.header.send) to)
PacketLawful gs cs (Packet.Credit id to h) = HolderIs (grant_in gs h) to
PacketLawful gs cs p = Unit {0}

-- ---- the state

abbrev pub CreditsLawful : Option Grant → ℕ → Type 0
CreditsLawful None n = n ≡ 0
CreditsLawful (Some x) n = is_open x.standing ≡ true → n ≡ limit_of x.fresh

-- activities, data packets and names
pub record Traffic (gs : List Grant) (cs : List Context) (fs : List Packet) (next : ℕ) : Type 0 where
  pub acts : DistinctActs cs
  pub contexts : (a : ℕ) (c : Context) → context_of a cs ≡ Some c → ContextLawful gs fs c
  pub packets : (id : FlightId) (p : Packet) → flight id fs ≡ Some p → PacketLawful gs cs p
  -- the kernel's next names are new
  pub orders : (n : ℕ) → next ≤ n → Apart (record { issuer = kernel; number = n }) fs

pub record GrantInvariant (s : State) : Type 0 where
  pub placed : RecordsMatchGrants s
  pub traffic : Traffic s.grants s.contexts s.flights s.kernel_next
  pub credits : (g : ℕ) → CreditsLawful (grant_in s.grants g) (credits g s)
