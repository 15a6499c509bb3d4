-- A writer and a reader in an ideal run, and what makes them a pipe.
use Rattle.std.specs.Prelude.{◌≡◌, ◌≢◌, ℕ, ◌+◌, ◌*◌, ◌≤◌, ◌==◌, ◌⊎◌, true, List, [], ◌∷◌, ◌++◌, length, Option, Some, None, if◌then◌else◌}
use Rattle.m3_base.specs.declared.command.Command.{Command}
use Rattle.m3_base.specs.declared.command.Answer.{Answer}
use Rattle.m3_base.specs.declared.packet.Packet.{Packet}
use Rattle.m3_base.specs.declared.step.Step.{Step}
use Rattle.m3_base.specs.declared.setup_line.SetupLine.{SetupLine}
use Rattle.m3_base.specs.declared.order.GrantLine.{GrantLine}
use Rattle.m3_base.specs.Ideal.Context.{Context, Endpoint, Free, Sends, Receives, Reaches, SendRecord, ReceiveRecord, MemoryRecord, endpoint}
use Rattle.m3_base.specs.Ideal.Issue.{Issued, IssueOutcome, Gives, Flies, issue}
use Rattle.m3_base.specs.Ideal.State.{State, Grant, context_of, grant_in, parent_of, holder, holder_ep}
use Rattle.m3_base.specs.Ideal.Step.{Label, At_issue, Present, Answers, IdealResult, ideal_step}
use Rattle.m3_base.specs.Setup.Rules.{SetupValue, IsValid}
use Rattle.m3_laws.specs.Laws.{AllFit}
use Rattle.m3_base.specs.Ideal.Opening.{opening}
use Rattle.m3_base.specs.Ideal.MessageTraces.{state_after_steps}
use Rattle.m3_base.specs.Journal.Replies.{reply_of}
use Rattle.m3_base.specs.Lists.Prefixes.{IsPrefix}
use Rattle.m3_base.specs.declared.program.Move.{Move}
use Rattle.m3_base.specs.declared.program.Seen.{Seen}
use Rattle.m3_pipe_laws.specs.Protocol.{Reaction, Writer, WriterState, writer_start, writer_step, Reader, ReaderState, reader_start, reader_step}

-- ---- a program in a run

-- where a program stands, and the move that it wants; none while its command flies
pub record Player (W : Type 0) : Type 0 where
  pub at : W
  pub wants : Option Move

module _ {W : Type 0} (step : W → Seen → Reaction W) (a : ℕ) where
  -- its next move, by what it sees
  abbrev pub next_player : W → Seen → Player W
  next_player p s = record { at = (step p s).next; wants = Some (step p s).move }

  abbrev pub player_at_issue : W → IssueOutcome → Player W
  player_at_issue p (Gives answer) = next_player p (Seen.Answer answer)
  player_at_issue p (Flies id) = record { at = p; wants = None }

  -- what a step makes of it
  abbrev pub player_by_word : Player W → Step → Label → Player W
  player_by_word p (Step.Issue b c) (At_issue told) =
      if b == a then player_at_issue p.at told else p
  player_by_word p (Step.Await b ep) (Present true) =
      if b == a then next_player p.at Seen.Awake else p
  player_by_word p (Step.Answered id) (Answers x answer freed) =
      if id.issuer == a then next_player p.at (Seen.Answer (reply_of answer)) else p
  player_by_word p t word = p

  abbrev pub player_after : Player W → Step → Option IdealResult → Player W
  player_after p t None = p
  player_after p t (Some n) = player_by_word p t n.word

  -- a step of this activity is the move that its program wants
  abbrev pub IsMove : Player W → Step → Type 0
  IsMove p (Step.Issue b c) = (b == a) ≡ true → p.wants ≡ Some (Move.Do c)
  IsMove p (Step.Await b ep) = (b == a) ≡ true → p.wants ≡ Some (Move.Await ep)
  IsMove p t = Unit {0}

  abbrev pub Plays : Player W → State → List Step → Type 0
  Plays p s [] = Unit {0}
  Plays p s (t ∷ ts) =
      IsMove p t
      × Plays (player_after p t (ideal_step s t)) (state_after_steps s (ideal_step s t)) ts

  -- where the program stands after these steps
  abbrev pub player_along : Player W → State → List Step → Player W
  player_along p s [] = p
  player_along p s (t ∷ ts) =
      player_along (player_after p t (ideal_step s t)) (state_after_steps s (ideal_step s t)) ts

-- ---- the bytes that came through

-- the bytes of an activity's last command, if that was a write
abbrev pub write_payload : Command → List ℕ
write_payload (Command.Write ep off payload) = payload
write_payload command = []

abbrev pub last_bytes : ℕ → List ℕ → Step → List ℕ
last_bytes a last (Step.Issue b c) = if b == a then write_payload c else last
last_bytes a last t = last

abbrev pub bytes_if_written : Answer → List ℕ → List ℕ
bytes_if_written Answer.Written bytes = bytes
bytes_if_written answer bytes = []

abbrev pub written_bytes_by : ℕ → List ℕ → Step → Label → List ℕ
written_bytes_by a last (Step.Answered id) (Answers x answer freed) =
    if id.issuer == a then bytes_if_written answer last else []
written_bytes_by a last t word = []

abbrev pub written_bytes_at : ℕ → List ℕ → Step → Option IdealResult → List ℕ
written_bytes_at a last t None = []
written_bytes_at a last t (Some n) = written_bytes_by a last t n.word

-- the joined bytes of a's writes that were answered written
abbrev pub written_bytes : ℕ → List ℕ → State → List Step → List ℕ
written_bytes a last s [] = []
written_bytes a last s (t ∷ ts) =
    written_bytes_at a last t (ideal_step s t)
    ++ written_bytes a (last_bytes a last t) (state_after_steps s (ideal_step s t)) ts

abbrev pub bytes_if_read : Answer → List ℕ
bytes_if_read (Answer.Bytes bytes) = bytes
bytes_if_read answer = []

abbrev pub read_bytes_by : ℕ → Step → Label → List ℕ
read_bytes_by a (Step.Answered id) (Answers x answer freed) =
    if id.issuer == a then bytes_if_read answer else []
read_bytes_by a t word = []

abbrev pub read_bytes_at : ℕ → Step → Option IdealResult → List ℕ
read_bytes_at a t None = []
read_bytes_at a t (Some n) = read_bytes_by a t n.word

-- the joined bytes of a's reads that were answered with bytes
abbrev pub read_bytes : ℕ → State → List Step → List ℕ
read_bytes a s [] = []
read_bytes a s (t ∷ ts) =
    read_bytes_at a t (ideal_step s t) ++ read_bytes a (state_after_steps s (ideal_step s t)) ts

-- ---- a pipe

abbrev pub endpoint_in : ℕ → Option Context → Endpoint
endpoint_in ep None = Free
endpoint_in ep (Some c) = endpoint c ep

abbrev pub endpoint_at : State → ℕ → ℕ → Endpoint
endpoint_at s a ep = endpoint_in ep (context_of a s.contexts)

-- two stretches of memory have no byte in common
abbrev pub Disjoint : ℕ → ℕ → ℕ → ℕ → Type 0
Disjoint a alen b blen = (a + alen ≤ b) ⊎ (b + blen ≤ a)

abbrev pub WritesOutside : ℕ → ℕ → Option Packet → Type 0
WritesOutside start len (Some (Packet.Write id g place payload)) =
    Disjoint start len place (length payload)
WritesOutside start len packet = Unit {0}

abbrev pub IssuesOutside : ℕ → ℕ → Option Issued → Type 0
IssuesOutside start len None = Unit {0}
IssuesOutside start len (Some i) = WritesOutside start len i.packet

abbrev pub CommandOutside : ℕ → ℕ → Option Context → Command → Type 0
CommandOutside start len None c = Unit {0}
CommandOutside start len (Some x) c = IssuesOutside start len (issue x c)

-- no other activity than w writes into these bytes
abbrev pub StepOutside : ℕ → ℕ → ℕ → State → Step → Type 0
StepOutside w start len s (Step.Issue a c) =
    a ≢ w → CommandOutside start len (context_of a s.contexts) c
StepOutside w start len s t = Unit {0}

abbrev pub AllOutside : ℕ → ℕ → ℕ → State → List Step → Type 0
AllOutside w start len s [] = Unit {0}
AllOutside w start len s (t ∷ ts) =
    StepOutside w start len s t
    × AllOutside w start len (state_after_steps s (ideal_step s t)) ts

-- a new grant is no child of these receive grants, and not at these endpoints
pub record MakesApart (w r : ℕ) (writer : Writer) (reader : Reader) (inbox replies : ℕ)
    (line : GrantLine) : Type 0 where
  pub parent : (parent_of line ≢ Some inbox) × (parent_of line ≢ Some replies)
  pub writers :
      holder line ≡ w
      → (holder_ep line ≢ writer.mem) × (holder_ep line ≢ writer.send) ×
      (holder_ep line ≢ writer.reply)
  pub readers : holder line ≡ r → (holder_ep line ≢ reader.mem) × (holder_ep line ≢ reader.recv)

abbrev pub MakeApart : ℕ → ℕ → Writer → Reader → ℕ → ℕ → Step → Type 0
MakeApart w r writer reader inbox replies (Step.Make line) =
    MakesApart w r writer reader inbox replies line
MakeApart w r writer reader inbox replies t = Unit {0}

abbrev pub AllMakesApart : ℕ → ℕ → Writer → Reader → ℕ → ℕ → List Step → Type 0
AllMakesApart w r writer reader inbox replies [] = Unit {0}
AllMakesApart w r writer reader inbox replies (t ∷ ts) =
    MakeApart w r writer reader inbox replies t
    × AllMakesApart w r writer reader inbox replies ts

abbrev pub writer_player : Writer → Player WriterState
writer_player w =
    record {
      at = (writer_step w writer_start Seen.First).next;
      wants = Some (writer_step w writer_start Seen.First).move;
    }

abbrev pub reader_player : Reader → Player ReaderState
reader_player r =
    record {
      at = (reader_step r reader_start Seen.First).next;
      wants = Some (reader_step r reader_start Seen.First).move;
    }

-- the numbers of a writer and a reader of one ring
pub record SameRing (writer : Writer) (reader : Reader) : Type 0 where
  pub chunk : reader.chunk ≡ writer.chunk
  pub ring : reader.ring ≡ writer.ring
  pub chunk_least : 1 ≤ writer.chunk
  pub chunk_most : writer.chunk ≤ 4096
  pub ring_least : 1 ≤ writer.ring
  pub ring_most : writer.ring ≤ 32
  pub bytes_most : length writer.bytes ≤ 65536

pub record Pipe (memory : ℕ) (lines : List SetupLine) (steps : List Step) (w r : ℕ)
    (writer : Writer) (reader : Reader) : Type 0 where
  pub apart : w ≢ r
  pub numbers : SameRing writer reader
  -- the five records of the setup
  pub out : MemoryRecord
  pub into : MemoryRecord
  pub notices : SendRecord
  pub inbox : ReceiveRecord
  pub replies : ReceiveRecord
  pub out_at : endpoint_at (opening memory lines) w writer.mem ≡ Reaches out
  pub into_at : endpoint_at (opening memory lines) r reader.mem ≡ Reaches into
  pub notices_at : endpoint_at (opening memory lines) w writer.send ≡ Sends notices
  pub inbox_at : endpoint_at (opening memory lines) r reader.recv ≡ Receives inbox
  pub replies_at : endpoint_at (opening memory lines) w writer.reply ≡ Receives replies
  -- both reach the same bytes, which are in memory
  pub same_start : into.start ≡ out.start
  pub out_length : writer.ring * writer.chunk ≤ out.length
  pub into_length : writer.ring * writer.chunk ≤ into.length
  pub inside : out.start + writer.ring * writer.chunk ≤ memory
  -- notices go to the reader, and nothing else does; only replies come back
  pub target : notices.to_grant ≡ inbox.grant
  pub only_child :
      (g : ℕ) (x : Grant)
      → grant_in (opening memory lines).grants g ≡ Some x
      → parent_of x.line ≡ Some inbox.grant
      → g ≡ notices.grant
  pub no_child :
      (g : ℕ) (x : Grant)
      → grant_in (opening memory lines).grants g ≡ Some x
      → parent_of x.line ≢ Some replies.grant
  -- the run
  pub makes : AllMakesApart w r writer reader inbox.grant replies.grant steps
  pub outside : AllOutside w out.start (writer.ring * writer.chunk) (opening memory lines) steps
  pub writes : Plays (writer_step writer) w (writer_player writer) (opening memory lines) steps
  pub reads : Plays (reader_step reader) r (reader_player reader) (opening memory lines) steps

-- what the reader took is a prefix of what the writer put, and that a prefix of the data; the
-- reader has what it took
pub record Delivers (memory : ℕ) (lines : List SetupLine) (steps : List Step) (w r : ℕ)
    (writer : Writer) (reader : Reader) : Type 0 where
  pub taken_put :
      IsPrefix (read_bytes r (opening memory lines) steps)
      (written_bytes w [] (opening memory lines) steps)
  pub put_bytes : IsPrefix (written_bytes w [] (opening memory lines) steps) writer.bytes
  pub has :
      (player_along (reader_step reader) r (reader_player reader) (opening memory lines) steps).at.taken
      ≡ read_bytes r (opening memory lines) steps

-- of every run of every valid setup with a pipe
abbrev pub PipesDeliver : Type 0
PipesDeliver =
    (setup : SetupValue) (steps : List Step) (w r : ℕ) (writer : Writer) (reader : Reader)
    → IsValid setup
    → AllFit steps
    → Pipe setup.memory setup.lines steps w r writer reader
    → Delivers setup.memory setup.lines steps w r writer reader
