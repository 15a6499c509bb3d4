-- The invariant of a pipe in an ideal run: how the state, the writer and the reader stand to the
-- ring.
use Rattle.std.specs.Prelude.{◌<◌, ◌≡◌, ℕ, ◌*◌, ◌≤◌, Bool, true, false, List, [], ◌++◌}
use Rattle.m3_base.specs.declared.step.Step.{Step}
use Rattle.m3_base.specs.Ideal.State.{State}
use Rattle.m3_base.specs.Ideal.Step.{ideal_step}
use Rattle.m3_base.specs.Ideal.Opening.{opening}
use Rattle.m3_base.specs.Setup.Rules.{SetupValue, IsValid}
use Rattle.m3_base.specs.Ideal.MessageTraces.{state_after_steps}
use Rattle.m3_laws.specs.Invariant.{Invariant}
use Rattle.m3_pipe_laws.specs.Protocol.{Writer, WriterState, writer_step, Reader, ReaderState, reader_step}
use Rattle.m3_pipe_laws.specs.Pipe.{Player, player_after, IsMove, written_bytes_at, last_bytes, read_bytes_at, StepOutside, MakeApart, Pipe, writer_player, reader_player}
use Rattle.m3_pipe_laws.specs.Ring.{Line, LineOk, pieces}
use Rattle.m3_pipe_laws.proofs.Invariant.Sides.{Sides, has_one, SidesOk}
use Rattle.m3_pipe_laws.proofs.Invariant.Isolation.{Isolation}
use Rattle.m3_pipe_laws.proofs.Invariant.WriterSide.{WriterSide}
use Rattle.m3_pipe_laws.proofs.Invariant.ReaderSide.{ReaderSide}

-- ---- the ring

pub record Marks : Type 0 where
  pub l : Line
  -- the end's notice landed, and its reply
  pub over : Bool
  pub shut : Bool
  -- writes and reads that were answered
  pub put : ℕ
  pub took : ℕ

pub record RingSide (e : Sides) (bytes before after : List ℕ) (x : Marks) : Type 0 where
  pub ring : LineOk e.writer e.out.start x.l
  pub memory : x.l.memory ≡ bytes
  pub real : (i : ℕ) → i < x.l.written → has_one e i ≡ true
  -- the end lands after all chunks, and is answered after it landed
  pub last_notice : x.over ≡ true → has_one e x.l.noticed ≡ false
  pub last_reply : x.shut ≡ true → x.over ≡ true
  -- the bytes so far: of the writes and reads that were answered
  pub put_least : x.l.noticed ≤ x.put
  pub put_most : x.put ≤ x.l.written
  pub took_most : x.took ≤ x.l.read
  pub puts : before ≡ pieces e.writer.chunk e.writer.bytes x.put
  pub takes : after ≡ pieces e.writer.chunk e.writer.bytes x.took

-- ---- all

pub record PipeAt (e : Sides) (s : State) (pw : Player WriterState) (pr : Player ReaderState)
    (last puts takes : List ℕ) (x : Marks) : Type 0 where
  pub ring : RingSide e s.memory puts takes x
  pub writer :
      WriterSide e s pw last x.l.written x.l.noticed x.put x.l.back x.l.replied x.over x.shut
  pub reader : ReaderSide e s pr takes x.l.noticed x.l.read x.l.replied x.took x.over x.shut

-- for some ring, with nobody else in the way
pub record PipeInvariant (e : Sides) (s : State) (pw : Player WriterState) (pr : Player ReaderState)
    (last puts takes : List ℕ) : Type 0 where
  pub marks : Marks
  pub joined : PipeAt e s pw pr last puts takes marks
  pub around : Isolation e s

-- what a step makes of it
abbrev pub PipeInvariantAfter :
    Sides → State → Player WriterState → Player ReaderState → List ℕ → List ℕ → List ℕ → Step
    → Type 0
PipeInvariantAfter e s pw pr last puts takes t =
    PipeInvariant e (state_after_steps s (ideal_step s t))
    (player_after (writer_step e.writer) e.w pw t (ideal_step s t))
    (player_after (reader_step e.reader) e.r pr t (ideal_step s t)) (last_bytes e.w last t)
    (puts ++ written_bytes_at e.w last t (ideal_step s t)) (takes ++ read_bytes_at e.r t (ideal_step s t))

-- one step keeps it
abbrev pub StepsKeepPipe : Type 0
StepsKeepPipe =
    (e : Sides) (s : State) (pw : Player WriterState) (pr : Player ReaderState)
    (last puts takes : List ℕ) (t : Step)
    → SidesOk e
    → Invariant s
    → PipeInvariant e s pw pr last puts takes
    → MakeApart e.w e.r e.writer e.reader e.inbox.grant e.replies.grant t
    → StepOutside e.w e.out.start (e.writer.ring * e.writer.chunk) s t
    → IsMove (writer_step e.writer) e.w pw t
    → IsMove (reader_step e.reader) e.r pr t
    → PipeInvariantAfter e s pw pr last puts takes t

abbrev pub sides_of :
    {memory : ℕ} {lines : List _} {steps : List Step} {w r : ℕ} {writer : Writer} {reader : Reader}
    → Pipe memory lines steps w r writer reader
    → Sides
sides_of {w = w} {r = r} {writer = writer} {reader = reader} p =
    record {
      w = w;
      r = r;
      writer = writer;
      reader = reader;
      out = p.out;
      into = p.into;
      notices = p.notices;
      inbox = p.inbox;
      replies = p.replies;
    }

-- it holds at opening
abbrev pub OpeningHasPipe : Type 0
OpeningHasPipe =
    (setup : SetupValue) (steps : List Step) (w r : ℕ) (writer : Writer) (reader : Reader)
    → IsValid setup
    → (p : Pipe setup.memory setup.lines steps w r writer reader)
    → PipeInvariant (sides_of p) (opening setup.memory setup.lines) (writer_player writer)
    (reader_player reader) [] [] []
