-- Nobody else is in a pipe's way: its grants, and what of others flies or is queued.
use Rattle.std.specs.Prelude.{◌≡◌, ◌≢◌, ℕ, ◌*◌, ◌⊎◌, ◌==◌, false, List, [], ◌∷◌, length, Some}
use Rattle.m3_base.specs.declared.message.Message.{Message}
use Rattle.m3_base.specs.declared.command.Command.{Command}
use Rattle.m3_base.specs.declared.packet.Packet.{Packet}
use Rattle.m3_base.specs.declared.packet.Fresh.{Fresh}
use Rattle.m3_base.specs.declared.ids.FlightId.{FlightId}
use Rattle.m3_base.specs.Ideal.Flights.{flight}
use Rattle.m3_base.specs.Ideal.Context.{Context, Fetched, Endpoint, Receives, endpoint}
use Rattle.m3_base.specs.Ideal.State.{State, Grant, context_of, grant_in, holder, holder_ep, parent_of}
use Rattle.m3_base.specs.Ideal.Step.{number_of}
use Rattle.m3_laws.specs.Laws.{parent_at}
use Rattle.m3_laws.specs.GrantInvariant.{IsHeldAt}
use Rattle.m3_pipe_laws.specs.Pipe.{Disjoint}
use Rattle.m3_pipe_laws.proofs.Invariant.Sides.{Sides}

-- ---- grants

-- the grant with this form is held there, and no other grant is
pub record Alone (gs : List Grant) (a ep : ℕ) (f : Fresh) : Type 0 where
  pub held : IsHeldAt (grant_in gs (number_of f)) a ep f
  pub only :
      (g : ℕ) (x : Grant)
      → grant_in gs g ≡ Some x
      → holder x.line ≡ a
      → holder_ep x.line ≡ ep
      → g ≡ number_of f

pub record GrantsApart (e : Sides) (gs : List Grant) : Type 0 where
  pub out : Alone gs e.w e.writer.mem (Fresh.Memory e.out.grant e.out.start e.out.length e.out.perm)
  pub into :
      Alone gs e.r e.reader.mem (Fresh.Memory e.into.grant e.into.start e.into.length e.into.perm)
  pub notices :
      Alone gs e.w e.writer.send
      (Fresh.Send e.notices.grant e.r e.reader.recv e.inbox.grant e.notices.label
      e.notices.size e.notices.limit)
  pub inbox : Alone gs e.r e.reader.recv (Fresh.Receive e.inbox.grant e.inbox.slots e.inbox.size)
  pub replies :
      Alone gs e.w e.writer.reply (Fresh.Receive e.replies.grant e.replies.slots e.replies.size)
  -- notices go to the reader, and nothing else does; only replies come back
  pub child : parent_at (grant_in gs e.notices.grant) ≡ Some e.inbox.grant
  pub only_child :
      (g : ℕ) (x : Grant)
      → grant_in gs g ≡ Some x
      → parent_of x.line ≡ Some e.inbox.grant
      → g ≡ e.notices.grant
  pub no_child :
      (g : ℕ) (x : Grant)
      → grant_in gs g ≡ Some x
      → parent_of x.line ≢ Some e.replies.grant

-- ---- messages

-- a message that is no reply wants none at the reader, and only a notice wants one at the writer
abbrev pub MessageApart : Sides → Message → Type 0
MessageApart e m =
    m.header.flags ≡ 0
    → (m.header.reply ≢ e.inbox.grant) ×
    (m.header.reply ≡ e.replies.grant → m.header.send ≡ e.notices.grant)

abbrev pub AllApart : Sides → List Message → Type 0
AllApart e [] = Unit {0}
AllApart e (m ∷ ms) = MessageApart e m × AllApart e ms

abbrev pub FetchedApart : Sides → List Fetched → Type 0
FetchedApart e [] = Unit {0}
FetchedApart e (f ∷ fs) = MessageApart e f.message × FetchedApart e fs

abbrev pub QueueApart : Sides → Endpoint → Type 0
QueueApart e (Receives q) = AllApart e q.unread × FetchedApart e q.fetched
QueueApart e other = Unit {0}

-- ---- what flies

-- no reply goes to the reader, and the reader's alone to the writer; a write of another is
-- elsewhere; no Install makes these two grants again
abbrev pub PacketApart : Sides → Packet → Type 0
PacketApart e (Packet.Message to ep g m) =
    MessageApart e m
    × ((m.header.flags == 0) ≡ false
    → (g ≢ e.inbox.grant) × (g ≡ e.replies.grant → m.header.sender ≡ e.r))
PacketApart e (Packet.Install id to ep f) =
    (number_of f ≢ e.inbox.grant) × (number_of f ≢ e.replies.grant)
PacketApart e (Packet.Write id g place payload) =
    (id.issuer ≡ e.w) ⊎ Disjoint e.out.start (e.writer.ring * e.writer.chunk) place (length payload)
PacketApart e packet = Unit {0}

-- ---- all

pub record Isolation (e : Sides) (s : State) : Type 0 where
  pub grants : GrantsApart e s.grants
  pub packets : (id : FlightId) (p : Packet) → flight id s.flights ≡ Some p → PacketApart e p
  pub queues :
      (a : ℕ) (c : Context)
      → context_of a s.contexts ≡ Some c
      → (ep : ℕ)
      → QueueApart e (endpoint c ep)

-- what the writer and the reader send at all
abbrev pub WriterSends : Sides → Command → Type 0
WriterSends e (Command.Send ep payload to) = ep ≡ e.writer.send
WriterSends e c = Unit {0}

abbrev pub ReaderSends : Command → Type 0
ReaderSends (Command.Send ep payload to) = ⊥
ReaderSends c = Unit {0}
