-- How the state and the writer stand to the ring.
use Rattle.std.specs.Prelude.{◌<◌, ◌≡◌, ℕ, ◌+◌, ◌≤◌, Bool, true, false, not, List, [], length, Option, Some, None, if◌then◌else◌}
use Rattle.m3_base.specs.declared.command.Command.{Command}
use Rattle.m3_base.specs.declared.command.Answer.{Answer}
use Rattle.m3_base.specs.declared.message.Message.{Message}
use Rattle.m3_base.specs.declared.packet.Packet.{Packet}
use Rattle.m3_base.specs.declared.program.Move.{Move}
use Rattle.m3_base.specs.Lists.Counting.{one}
use Rattle.m3_base.specs.Ideal.Context.{Sending, Writing}
use Rattle.m3_base.specs.Ideal.State.{State}
use Rattle.m3_pipe_laws.specs.Protocol.{WriterState, WriterPhase, Begins, Writes, Sends, Awaits, Fetches, Acknowledges, Over, notice, slot}
use Rattle.m3_pipe_laws.specs.Pipe.{Player, endpoint_at}
use Rattle.m3_pipe_laws.proofs.Invariant.Sides.{Sides, piece_of, has_one, place_at}
use Rattle.m3_base.specs.Lists.CountDown.{one_less}
use Rattle.m3_pipe_laws.proofs.Invariant.Flights.{flying_of, LoneFlight, Queue, queue_of}

-- chunks whose notice was answered
abbrev pub announced_count : WriterState → ℕ
announced_count p = if p.ended then one_less p.sent else p.sent

-- between two chunks: all that was written was answered and announced
pub record AtRest (p : WriterState) (w n k : ℕ) (o : Bool) : Type 0 where
  pub written : w ≡ announced_count p
  pub noticed : n ≡ announced_count p
  pub put : k ≡ announced_count p
  pub over : o ≡ p.ended

-- while a chunk is written or announced
pub record Busy (e : Sides) (p : WriterState) : Type 0 where
  pub more : p.ended ≡ false
  pub room : p.sent < p.back + e.writer.ring

-- so many were written, announced and answered
pub record WriterCounts (w n k : ℕ) (o : Bool) (a b c : ℕ) (f : Bool) : Type 0 where
  pub written : w ≡ a
  pub noticed : n ≡ b
  pub put : k ≡ c
  pub over : o ≡ f

-- with the chunk at hand, where there is one
abbrev pub count_with_chunk : Sides → WriterState → ℕ
count_with_chunk e p = p.sent + one (has_one e p.sent)

-- its next command wasn't issued yet; w, n, k, o: chunks written, announced and answered, and
-- whether the end's notice landed
abbrev pub WriterWants : Sides → WriterState → ℕ → ℕ → ℕ → Bool → Move → WriterPhase → Type 0
WriterWants e p w n k o m Begins = ⊥
WriterWants e p w n k o m Writes =
    (m
    ≡ Move.Do
    (Command.Write e.writer.mem (slot e.writer.ring e.writer.chunk p.sent) (piece_of e p.sent)))
    × ((has_one e p.sent ≡ true) × (Busy e p × WriterCounts w n k o p.sent p.sent p.sent false))
WriterWants e p w n k o m Sends =
    (m
    ≡ Move.Do
    (Command.Send e.writer.send (notice p.sent (length (piece_of e p.sent)))
    (Some e.writer.reply)))
    × (Busy e p × WriterCounts w n k o (count_with_chunk e p) p.sent (count_with_chunk e p) false)
WriterWants e p w n k o m Awaits = (m ≡ Move.Await e.writer.reply) × AtRest p w n k o
WriterWants e p w n k o m Fetches = (m ≡ Move.Do (Command.Fetch e.writer.reply)) × AtRest p w n k o
WriterWants e p w n k o m Acknowledges =
    (token : ℕ)
    × ((m ≡ Move.Do (Command.Acknowledge e.writer.reply token)) × AtRest p w n k o)
WriterWants e p w n k o m Over = m ≡ Move.Ended

-- the writer's write, or its answer
abbrev pub WriteFlies : Sides → WriterState → ℕ → ℕ → ℕ → Bool → List ℕ → Packet → Type 0
WriteFlies e p w n k o last (Packet.Write id g place payload) =
    (place ≡ place_at e p.sent)
    × ((payload ≡ piece_of e p.sent)
    × ((has_one e p.sent ≡ true)
    × ((last ≡ piece_of e p.sent) × (Busy e p × WriterCounts w n k o p.sent p.sent p.sent false))))
WriteFlies e p w n k o last (Packet.Answer id Answer.Written) =
    (has_one e p.sent ≡ true)
    × ((last ≡ piece_of e p.sent)
    × (Busy e p × WriterCounts w n k o (p.sent + 1) p.sent p.sent false))
WriteFlies e p w n k o last (Packet.Answer id (Answer.Refused why)) = Unit {0}
WriteFlies e p w n k o last packet = ⊥

-- a notice of the writer's
pub record IsNotice (e : Sides) (i : ℕ) (m : Message) : Type 0 where
  pub number : i ≤ 65536
  pub payload : m.payload ≡ notice i (length (piece_of e i))
  pub flags : m.header.flags ≡ 0
  pub sender : m.header.sender ≡ e.w
  pub reply_ep : m.header.reply_ep ≡ e.writer.reply
  pub reply : m.header.reply ≡ e.replies.grant

abbrev pub NoticeFlies : Sides → WriterState → ℕ → ℕ → ℕ → Bool → Packet → Type 0
NoticeFlies e p w n k o (Packet.Message to ep g m) =
    (to ≡ e.r)
    × ((ep ≡ e.reader.recv)
    × ((g ≡ e.inbox.grant)
    × (IsNotice e p.sent m
    × (Busy e p
    × WriterCounts w n k o (count_with_chunk e p) p.sent (count_with_chunk e p) false))))
NoticeFlies e p w n k o (Packet.Answer id Answer.Sent) =
    Busy e p
    × WriterCounts w n k o (count_with_chunk e p) (count_with_chunk e p) (count_with_chunk e p)
    (not (has_one e p.sent))
NoticeFlies e p w n k o (Packet.Answer id (Answer.Refused why)) = Unit {0}
NoticeFlies e p w n k o packet = ⊥

abbrev pub WriterFlies :
    Sides → State → WriterState → ℕ → ℕ → ℕ → Bool → List ℕ → WriterPhase → Type 0
WriterFlies e s p w n k o last Writes =
    LoneFlight e.w s Writing e.writer.mem 0 (WriteFlies e p w n k o last)
WriterFlies e s p w n k o last Sends =
    LoneFlight e.w s Sending e.writer.send 0 (NoticeFlies e p w n k o)
WriterFlies e s p w n k o last d = ⊥

abbrev pub WriterBy : Sides → State → WriterState → ℕ → ℕ → ℕ → Bool → List ℕ → Option Move → Type 0
WriterBy e s p w n k o last (Some m) = (flying_of e.w s ≡ []) × WriterWants e p w n k o m p.doing
WriterBy e s p w n k o last None = WriterFlies e s p w n k o last p.doing

-- what came back and wasn't acknowledged; shut: the end's reply landed. A record that is gone holds
-- nothing
abbrev pub RepliesOk : WriterState → ℕ → Bool → Option Queue → Type 0
RepliesOk p replied shut None = Unit {0}
RepliesOk p replied shut (Some q) =
    p.back + (length q.unread + length q.fetched) ≤ replied + one shut

-- w, n, k, b, d: chunks written, announced, answered, given back, and replied to
pub record WriterSide (e : Sides) (s : State) (p : Player WriterState) (last : List ℕ)
    (w n k b d : ℕ) (over shut : Bool) : Type 0 where
  pub by : WriterBy e s p.at w n k over last p.wants
  pub back : p.at.ended ≡ false → b ≡ p.at.back
  pub few : p.at.ended ≡ false → p.at.sent ≤ 65536
  pub replies : RepliesOk p.at d shut (queue_of (endpoint_at s e.w e.writer.reply))
