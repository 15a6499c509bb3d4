-- What holds of the moves and of the ring, whatever the machine does.
use Rattle.std.specs.Prelude.{◌≡◌, ℕ, ◌+◌, ◌*◌, ◌<◌, ◌≤◌, ◌^◌, true, List, length, Some}
use Rattle.m3_base.specs.declared.command.Command.{Command}
use Rattle.m3_base.specs.declared.program.Move.{Move}
use Rattle.m3_base.specs.declared.program.Seen.{Seen}
use Rattle.m3_pipe_laws.specs.Protocol.{WriterPhase, Begins, Writes, Sends as Announces, Awaits, Fetches, Acknowledges, Over, ReaderPhase, Starts, Waits, Looks, Reads, Replies, Closes, Finished, Reaction, Writer, WriterState, writer_start, writer_step, Reader, ReaderState, reader_step, state_along, notice, read_notice, slot, piece, has_piece}
use Rattle.m3_base.specs.FourBytes.{four_bytes}
use Rattle.m3_base.specs.Lists.Prefixes.{IsPrefix}
use Rattle.m3_pipe_laws.specs.Ring.{Line, Reaches, empty_line, pieces}

-- ---- the writer's window

-- a write is of the next chunk, and fewer than ring notices are without a reply
abbrev pub InWindow : Writer → WriterState → Move → Type 0
InWindow w p (Move.Do (Command.Write ep off payload)) =
    (ep ≡ w.mem)
    × (off ≡ slot w.ring w.chunk p.sent)
    × (payload ≡ piece w.chunk w.bytes p.sent)
    × (has_piece w.chunk w.bytes p.sent ≡ true)
    × (p.sent < p.back + w.ring)
InWindow w p (Move.Do (Command.Send ep payload reply)) =
    (ep ≡ w.send)
    × (payload ≡ notice p.sent (length (piece w.chunk w.bytes p.sent)))
    × (reply ≡ Some w.reply)
    × (p.sent < p.back + w.ring)
InWindow w p move = Unit {0}

pub record StaysInWindow (w : Writer) (m : Reaction WriterState) : Type 0 where
  pub most : m.next.sent ≤ m.next.back + w.ring
  pub move : InWindow w m.next m.move

-- after any replies, whoever gave them
abbrev pub WriterWindow : Type 0
WriterWindow =
    (w : Writer) (seen : List Seen) (last : Seen)
    → StaysInWindow w (writer_step w (state_along (writer_step w) writer_start seen) last)

-- ---- the reader's numbers

-- a read is of the next chunk's slot and at most a chunk; a reply has the next number, and the
-- token of the notice at hand
abbrev pub InOrder : Reader → ReaderState → Move → Type 0
InOrder r p (Move.Do (Command.Read ep off len)) =
    (ep ≡ r.mem) × (off ≡ slot r.ring r.chunk p.next) × (len ≤ r.chunk)
InOrder r p (Move.Do (Command.Reply ep token payload)) =
    (ep ≡ r.recv) × (token ≡ p.token) × (payload ≡ four_bytes p.next)
InOrder r p move = Unit {0}

abbrev pub ReaderOrder : Type 0
ReaderOrder =
    (r : Reader) (p : ReaderState) (seen : Seen)
    → InOrder r (reader_step r p seen).next (reader_step r p seen).move

-- ---- what a program wants where it stands

abbrev pub WriterMove : Writer → WriterState → Move → WriterPhase → Type 0
WriterMove w p m Begins = ⊥
WriterMove w p m Writes =
    (m ≡ Move.Do (Command.Write w.mem (slot w.ring w.chunk p.sent) (piece w.chunk w.bytes p.sent)))
    × (has_piece w.chunk w.bytes p.sent ≡ true)
    × (p.sent < p.back + w.ring)
WriterMove w p m Announces =
    (m
    ≡ Move.Do
    (Command.Send w.send (notice p.sent (length (piece w.chunk w.bytes p.sent)))
    (Some w.reply)))
    × (p.sent < p.back + w.ring)
WriterMove w p m Awaits = m ≡ Move.Await w.reply
WriterMove w p m Fetches = m ≡ Move.Do (Command.Fetch w.reply)
WriterMove w p m Acknowledges = (token : ℕ) × (m ≡ Move.Do (Command.Acknowledge w.reply token))
WriterMove w p m Over = m ≡ Move.Ended

abbrev pub ReaderMove : Reader → ReaderState → Move → ReaderPhase → Type 0
ReaderMove r p m Starts = ⊥
ReaderMove r p m Waits = m ≡ Move.Await r.recv
ReaderMove r p m Looks = m ≡ Move.Do (Command.Fetch r.recv)
ReaderMove r p m Reads =
    (len : ℕ)
    × (m ≡ Move.Do (Command.Read r.mem (slot r.ring r.chunk p.next) len))
    × (len ≤ r.chunk)
ReaderMove r p m Replies = m ≡ Move.Do (Command.Reply r.recv p.token (four_bytes p.next))
ReaderMove r p m Closes = m ≡ Move.Do (Command.Reply r.recv p.token (four_bytes p.next))
ReaderMove r p m Finished = m ≡ Move.Ended

-- each step of the reader leads to such a move
abbrev pub ReaderFits : Type 0
ReaderFits =
    (r : Reader) (p : ReaderState) (seen : Seen)
    → ReaderMove r (reader_step r p seen).next (reader_step r p seen).move
    (reader_step r p seen).next.task

-- and of the writer, from its start on
abbrev pub WriterFits : Type 0
WriterFits =
    (w : Writer) (seen : List Seen) (last : Seen)
    → WriterMove w (writer_step w (state_along (writer_step w) writer_start seen) last).next
    (writer_step w (state_along (writer_step w) writer_start seen) last).move
    (writer_step w (state_along (writer_step w) writer_start seen) last).next.doing

-- ---- notices

abbrev pub NoticesAreRead : Type 0
NoticesAreRead =
    (number size : ℕ)
    → number < 2 ^ 32
    → size < 2 ^ 32
    → read_notice (notice number size) ≡ Some (record { number = number; size = size })

-- ---- the ring

pub record RingDelivers (w : Writer) (l : Line) : Type 0 where
  -- the bytes read are a prefix of the chunks written, and those a prefix of the data
  pub read : IsPrefix l.got (pieces w.chunk w.bytes l.written)
  pub written : IsPrefix (pieces w.chunk w.bytes l.written) w.bytes

abbrev pub RingsDeliver : Type 0
RingsDeliver =
    (w : Writer) (start : ℕ) (memory : List ℕ) (l : Line)
    → start + w.ring * w.chunk ≤ length memory
    → Reaches w start (empty_line memory) l
    → RingDelivers w l
