-- The moves of a pipe's writer and reader, as functions of what they have seen.
use Rattle.std.specs.Prelude.{ℕ, ◌+◌, ◌*◌, ◌%◌, Bool, false, not, ◌&&◌, ◌||◌, ◌==◌, nat_lt, List, [], ◌∷◌, ◌++◌, length, take, drop, Option, Some, None, if◌then◌else◌}
use Rattle.m3_base.specs.declared.command.Command.{Command}
use Rattle.m3_base.specs.declared.command.Reply.{Reply}
use Rattle.m3_base.specs.declared.program.Move.{Move}
use Rattle.m3_base.specs.declared.program.Seen.{Seen}
use Rattle.m3_base.specs.FourBytes.{four_bytes}

-- a move, and where the program stands then
pub record Reaction (W : Type 0) : Type 0 where
  pub move : Move
  pub next : W

-- ---- notices

-- the number of four bytes, the least first
abbrev pub number_of_four : ℕ → ℕ → ℕ → ℕ → ℕ
number_of_four a b c d = a + 256 * b + 65536 * c + 16777216 * d

pub record Notice : Type 0 where
  pub number : ℕ
  pub size : ℕ

abbrev pub notice : ℕ → ℕ → List ℕ
notice number size = four_bytes number ++ four_bytes size

-- none where these aren't 8 bytes
abbrev pub read_notice : List ℕ → Option Notice
read_notice (a ∷ b ∷ c ∷ d ∷ e ∷ f ∷ g ∷ h ∷ []) =
    Some (record { number = number_of_four a b c d; size = number_of_four e f g h })
read_notice xs = None

-- ---- the ring

-- where chunk i stands, from the start of the range
abbrev pub slot : ℕ → ℕ → ℕ → ℕ
slot ring chunk i = (i % ring) * chunk

-- chunk i of the data, and none after the last
abbrev pub piece : ℕ → List ℕ → ℕ → List ℕ
piece chunk bytes i = take chunk (drop (i * chunk) bytes)

abbrev pub has_piece : ℕ → List ℕ → ℕ → Bool
has_piece chunk bytes i = nat_lt (i * chunk) (length bytes)

-- ---- the writer

pub record Writer : Type 0 where
  pub mem : ℕ
  pub send : ℕ
  pub reply : ℕ
  pub chunk : ℕ
  pub ring : ℕ
  pub bytes : List ℕ

-- what the writer's last move was for
pub data WriterPhase : Type 0 where
  Begins Writes Sends Awaits Fetches Acknowledges Over : WriterPhase

pub record WriterState : Type 0 where
  -- the notices sent, and the replies fetched
  pub sent : ℕ
  pub back : ℕ
  -- the end was sent
  pub ended : Bool
  pub doing : WriterPhase

abbrev pub writer_start : WriterState
writer_start = record { sent = 0; back = 0; ended = false; doing = Begins }

abbrev pub writer_reaction : WriterState → WriterPhase → Move → Reaction WriterState
writer_reaction p d m = record { move = m; next = record p { doing = d } }

abbrev pub writer_over : WriterState → Reaction WriterState
writer_over p = writer_reaction p Over Move.Ended

abbrev pub write_of_piece : Writer → WriterState → Reaction WriterState
write_of_piece w p =
    writer_reaction p Writes
    (Move.Do (Command.Write w.mem (slot w.ring w.chunk p.sent) (piece w.chunk w.bytes p.sent)))

-- the notice of a chunk, or with length 0 the end
abbrev pub send_of_notice : Writer → WriterState → Reaction WriterState
send_of_notice w p =
    writer_reaction p Sends
    (Move.Do
    (Command.Send w.send (notice p.sent (length (piece w.chunk w.bytes p.sent)))
    (Some w.reply)))

abbrev pub await_of_reply : Writer → WriterState → Reaction WriterState
await_of_reply w p = writer_reaction p Awaits (Move.Await w.reply)

-- the end's reply is there
abbrev pub is_answered : WriterState → Bool
is_answered p = p.ended && (p.back == p.sent)

-- fewer than ring notices are without a reply
abbrev pub has_room : Writer → WriterState → Bool
has_room w p = nat_lt p.sent (p.back + w.ring)

abbrev pub writer_choice : Writer → WriterState → Reaction WriterState
writer_choice w p =
    if is_answered p
    then writer_over p
    else (
    if not (has_room w p) || p.ended
    then await_of_reply w p
    else (if has_piece w.chunk w.bytes p.sent then write_of_piece w p else send_of_notice w p)
    )

-- one notice more; it was the end where no chunk has its number
abbrev pub with_notice_sent : Writer → WriterState → WriterState
with_notice_sent w p =
    record p { sent = p.sent + 1; ended = not (has_piece w.chunk w.bytes p.sent) }

abbrev pub with_reply_back : WriterState → WriterState
with_reply_back p = record p { back = p.back + 1 }

abbrev pub writer_at_answer : Writer → WriterState → WriterPhase → Reply → Reaction WriterState
writer_at_answer w p Writes Reply.Written = send_of_notice w p
writer_at_answer w p Sends Reply.Sent = writer_choice w (with_notice_sent w p)
writer_at_answer w p Fetches (Reply.Fetched token m) =
    writer_reaction p Acknowledges (Move.Do (Command.Acknowledge w.reply token))
writer_at_answer w p Acknowledges (Reply.Acknowledged credit) = writer_choice w (with_reply_back p)
writer_at_answer w p d answer = writer_over p

abbrev pub writer_first : Writer → WriterState → WriterPhase → Reaction WriterState
writer_first w p Begins = writer_choice w p
writer_first w p d = writer_over p

abbrev pub writer_awake : Writer → WriterState → WriterPhase → Reaction WriterState
writer_awake w p Awaits = writer_reaction p Fetches (Move.Do (Command.Fetch w.reply))
writer_awake w p d = writer_over p

abbrev pub writer_step : Writer → WriterState → Seen → Reaction WriterState
writer_step w p Seen.First = writer_first w p p.doing
writer_step w p Seen.Awake = writer_awake w p p.doing
writer_step w p (Seen.Answer answer) = writer_at_answer w p p.doing answer

-- ---- the reader

pub record Reader : Type 0 where
  pub mem : ℕ
  pub recv : ℕ
  pub chunk : ℕ
  pub ring : ℕ

pub data ReaderPhase : Type 0 where
  Starts Waits Looks Reads Replies Closes Finished : ReaderPhase

pub record ReaderState : Type 0 where
  -- the next notice's number, the token of the one at hand, and the bytes read
  pub next : ℕ
  pub token : ℕ
  pub taken : List ℕ
  pub task : ReaderPhase

abbrev pub reader_start : ReaderState
reader_start = record { next = 0; token = 0; taken = []; task = Starts }

abbrev pub reader_reaction : ReaderState → ReaderPhase → Move → Reaction ReaderState
reader_reaction p t m = record { move = m; next = record p { task = t } }

abbrev pub reader_over : ReaderState → Reaction ReaderState
reader_over p = reader_reaction p Finished Move.Ended

abbrev pub reply_with_number : Reader → ReaderState → ReaderPhase → Reaction ReaderState
reply_with_number r p t =
    reader_reaction p t (Move.Do (Command.Reply r.recv p.token (four_bytes p.next)))

-- a notice: the next number, and no more than a chunk
abbrev pub is_next : Reader → ReaderState → Notice → Bool
is_next r p n = (n.number == p.next) && not (nat_lt r.chunk n.size)

abbrev pub at_notice : Reader → ReaderState → Option Notice → Reaction ReaderState
at_notice r p None = reader_over p
at_notice r p (Some n) =
    if not (is_next r p n)
    then reader_over p
    else (
    if n.size == 0
    then reply_with_number r p Closes
    else reader_reaction p Reads (Move.Do (Command.Read r.mem (slot r.ring r.chunk p.next) n.size))
    )

abbrev pub with_token : ReaderState → ℕ → ReaderState
with_token p token = record p { token = token }

abbrev pub with_bytes : ReaderState → List ℕ → ReaderState
with_bytes p bytes = record p { taken = p.taken ++ bytes }

abbrev pub reader_at_answer : Reader → ReaderState → ReaderPhase → Reply → Reaction ReaderState
reader_at_answer r p Looks (Reply.Fetched token m) =
    at_notice r (with_token p token) (read_notice m.payload)
reader_at_answer r p Reads (Reply.Bytes bytes) = reply_with_number r (with_bytes p bytes) Replies
reader_at_answer r p Replies Reply.Replied =
    reader_reaction (record p { next = p.next + 1 }) Waits (Move.Await r.recv)
reader_at_answer r p t answer = reader_over p

abbrev pub reader_first : Reader → ReaderState → ReaderPhase → Reaction ReaderState
reader_first r p Starts = reader_reaction p Waits (Move.Await r.recv)
reader_first r p t = reader_over p

abbrev pub reader_awake : Reader → ReaderState → ReaderPhase → Reaction ReaderState
reader_awake r p Waits = reader_reaction p Looks (Move.Do (Command.Fetch r.recv))
reader_awake r p t = reader_over p

abbrev pub reader_step : Reader → ReaderState → Seen → Reaction ReaderState
reader_step r p Seen.First = reader_first r p p.task
reader_step r p Seen.Awake = reader_awake r p p.task
reader_step r p (Seen.Answer answer) = reader_at_answer r p p.task answer

-- ---- whole lists of what was seen

module _ {W : Type 0} (step : W → Seen → Reaction W) where
  abbrev pub moves_along : W → List Seen → List Move
  moves_along p [] = []
  moves_along p (s ∷ ss) = (step p s).move ∷ moves_along (step p s).next ss

  abbrev pub state_along : W → List Seen → W
  state_along p [] = p
  state_along p (s ∷ ss) = state_along (step p s).next ss
