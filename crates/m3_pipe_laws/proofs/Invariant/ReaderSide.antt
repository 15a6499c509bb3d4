-- How the state and the reader stand to the ring.
use Rattle.std.specs.Prelude.{◌<◌, ◌≡◌, ℕ, ◌+◌, Bool, true, false, List, [], ◌∷◌, length, Option, Some, None}
use Rattle.m3_base.specs.declared.command.Command.{Command}
use Rattle.m3_base.specs.declared.command.Answer.{Answer}
use Rattle.m3_base.specs.declared.message.Message.{Message}
use Rattle.m3_base.specs.declared.packet.Packet.{Packet}
use Rattle.m3_base.specs.declared.program.Move.{Move}
use Rattle.m3_base.specs.Lists.Counting.{one}
use Rattle.m3_base.specs.Ideal.Context.{Replying, Reading, Fetched}
use Rattle.m3_base.specs.Ideal.State.{State}
use Rattle.m3_pipe_laws.specs.Protocol.{ReaderState, ReaderPhase, Starts, Waits, Looks, Reads, Replies, Closes, Finished, slot}
use Rattle.m3_base.specs.FourBytes.{four_bytes}
use Rattle.m3_pipe_laws.specs.Pipe.{Player, endpoint_at}
use Rattle.m3_pipe_laws.proofs.Invariant.Sides.{Sides, piece_of, place_at}
use Rattle.m3_pipe_laws.proofs.Invariant.Flights.{flying_of, LoneFlight, Queue, queue_of}
use Rattle.m3_pipe_laws.proofs.Invariant.WriterSide.{IsNotice}

abbrev pub holds_notice : ReaderPhase → Bool
holds_notice Reads = true
holds_notice Replies = true
holds_notice Closes = true
holds_notice t = false

abbrev pub is_open_phase : ReaderPhase → Bool
is_open_phase Finished = false
is_open_phase t = true

-- the notices that the reader has fetched
abbrev pub fetched_count : ReaderState → ℕ
fetched_count p = p.next + one (holds_notice p.task)

-- so many were read, replied to and answered, and the end's reply didn't land
pub record ReaderCounts (d c t : ℕ) (shut : Bool) (i j k : ℕ) : Type 0 where
  pub read : d ≡ i
  pub replied : c ≡ j
  pub took : t ≡ k
  pub more : shut ≡ false

-- d, c, t, shut: chunks read, replied to and answered, and whether the end's reply landed
abbrev pub ReaderWants : Sides → ReaderState → ℕ → ℕ → ℕ → Bool → Move → ReaderPhase → Type 0
ReaderWants e p d c t shut m Starts = ⊥
ReaderWants e p d c t shut m Waits =
    (m ≡ Move.Await e.reader.recv)
    × ReaderCounts d c t shut p.next p.next p.next
ReaderWants e p d c t shut m Looks =
    (m ≡ Move.Do (Command.Fetch e.reader.recv))
    × ReaderCounts d c t shut p.next p.next p.next
ReaderWants e p d c t shut m Reads =
    (m
    ≡ Move.Do
    (Command.Read e.reader.mem (slot e.reader.ring e.reader.chunk p.next)
    (length (piece_of e p.next))))
    × ReaderCounts d c t shut p.next p.next p.next
ReaderWants e p d c t shut m Replies =
    (m ≡ Move.Do (Command.Reply e.reader.recv p.token (four_bytes p.next)))
    × ReaderCounts d c t shut (p.next + 1) p.next (p.next + 1)
ReaderWants e p d c t shut m Closes =
    (m ≡ Move.Do (Command.Reply e.reader.recv p.token (four_bytes p.next)))
    × ReaderCounts d c t shut p.next p.next p.next
ReaderWants e p d c t shut m Finished = m ≡ Move.Ended

abbrev pub ReadFlies : Sides → ReaderState → ℕ → ℕ → ℕ → Bool → Packet → Type 0
ReadFlies e p d c t shut (Packet.Read id g place buffer) =
    (place ≡ place_at e p.next)
    × ((length buffer ≡ length (piece_of e p.next)) × ReaderCounts d c t shut p.next p.next p.next)
ReadFlies e p d c t shut (Packet.Answer id (Answer.Bytes bytes)) =
    (bytes ≡ piece_of e p.next) × ReaderCounts d c t shut (p.next + 1) p.next p.next
ReadFlies e p d c t shut (Packet.Answer id (Answer.Refused why)) = Unit {0}
ReadFlies e p d c t shut packet = ⊥

abbrev pub IsReply : Sides → ℕ → ℕ → ℕ → Message → Type 0
IsReply e to ep g m =
    (to ≡ e.w)
    × ((ep ≡ e.writer.reply) × ((g ≡ e.replies.grant) × (m.header.flags ≡ 1)))

abbrev pub ReplyFlies : Sides → ReaderState → ℕ → ℕ → ℕ → Bool → Packet → Type 0
ReplyFlies e p d c t shut (Packet.Message to ep g m) =
    IsReply e to ep g m × ReaderCounts d c t shut (p.next + 1) p.next (p.next + 1)
ReplyFlies e p d c t shut (Packet.Answer id Answer.Replied) =
    ReaderCounts d c t shut (p.next + 1) (p.next + 1) (p.next + 1)
ReplyFlies e p d c t shut (Packet.Answer id (Answer.Refused why)) = Unit {0}
ReplyFlies e p d c t shut packet = ⊥

-- the reply to the end's notice
abbrev pub EndFlies : Sides → ReaderState → ℕ → ℕ → ℕ → Bool → Packet → Type 0
EndFlies e p d c t shut (Packet.Message to ep g m) =
    IsReply e to ep g m × ReaderCounts d c t shut p.next p.next p.next
EndFlies e p d c t shut (Packet.Answer id Answer.Replied) = Unit {0}
EndFlies e p d c t shut (Packet.Answer id (Answer.Refused why)) = Unit {0}
EndFlies e p d c t shut packet = ⊥

abbrev pub ReaderFlies : Sides → State → ReaderState → ℕ → ℕ → ℕ → Bool → ReaderPhase → Type 0
ReaderFlies e s p d c t shut Reads =
    LoneFlight e.r s Reading e.reader.mem 0 (ReadFlies e p d c t shut)
ReaderFlies e s p d c t shut Replies =
    LoneFlight e.r s Replying e.reader.recv p.token (ReplyFlies e p d c t shut)
ReaderFlies e s p d c t shut Closes =
    LoneFlight e.r s Replying e.reader.recv p.token (EndFlies e p d c t shut)
ReaderFlies e s p d c t shut task = ⊥

abbrev pub ReaderBy : Sides → State → ReaderState → ℕ → ℕ → ℕ → Bool → Option Move → Type 0
ReaderBy e s p d c t shut (Some m) = (flying_of e.r s ≡ []) × ReaderWants e p d c t shut m p.task
ReaderBy e s p d c t shut None = ReaderFlies e s p d c t shut p.task

-- a chunk that is to be read was announced, and the end that is to be answered landed
abbrev pub Due : ReaderState → ℕ → Bool → ReaderPhase → Type 0
Due p n over Reads = p.next < n
Due p n over Closes = over ≡ true
Due p n over t = Unit {0}

-- notices from number i on
abbrev pub AreNotices : Sides → ℕ → List Message → Type 0
AreNotices e i [] = Unit {0}
AreNotices e i (m ∷ ms) = IsNotice e i m × AreNotices e (i + 1) ms

-- the notice at hand is the next one, and is the only fetched one
pub record IsAtHand (e : Sides) (p : ReaderState) (fs : List Fetched) : Type 0 where
  pub fetched : Fetched
  pub only : fs ≡ fetched ∷ []
  pub token : fetched.token ≡ p.token
  pub notice : IsNotice e p.next fetched.message

abbrev pub AtHand : Sides → ReaderState → List Fetched → Bool → Type 0
AtHand e p fs true = IsAtHand e p fs
AtHand e p fs false = fs ≡ []

pub record InboxIs (e : Sides) (p : ReaderState) (n : ℕ) (over : Bool) (q : Queue) : Type 0 where
  pub notices : AreNotices e (fetched_count p) q.unread
  pub count : fetched_count p + length q.unread ≡ n + one over
  pub hand : AtHand e p q.fetched (holds_notice p.task)

-- what waits for the reader; over: the end is among what landed. A record that is gone holds
-- nothing
abbrev pub InboxOk : Sides → ReaderState → ℕ → Bool → Option Queue → Type 0
InboxOk e p n over None = Unit {0}
InboxOk e p n over (Some q) = is_open_phase p.task ≡ true → InboxIs e p n over q

-- n, d, c, t: chunks announced, read, replied to and answered
pub record ReaderSide (e : Sides) (s : State) (p : Player ReaderState) (takes : List ℕ)
    (n d c t : ℕ) (over shut : Bool) : Type 0 where
  pub by : ReaderBy e s p.at d c t shut p.wants
  pub due : Due p.at n over p.at.task
  pub inbox : InboxOk e p.at n over (queue_of (endpoint_at s e.r e.reader.recv))
  pub taken : takes ≡ p.at.taken
