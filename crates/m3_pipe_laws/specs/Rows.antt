-- A pipe of 20 bytes in chunks of 16 over a ring of 2: the moves by themselves, and the whole
-- machine under the driver.
use Rattle.std.specs.Prelude.{◌≡◌, ℕ, zero, suc, ◌==◌, List, [], ◌∷◌, ◌++◌, length, Option, Some, None, if◌then◌else◌}
use Rattle.std.proofs.Common.{refl}
use Rattle.m3_base.specs.declared.command.Command.{Command}
use Rattle.m3_base.specs.declared.command.Reply.{Reply}
use Rattle.m3_base.specs.declared.message.Message.{Message}
use Rattle.m3_base.specs.declared.order.GrantLine.{GrantLine}
use Rattle.m3_base.specs.declared.setup_line.SetupLine.{SetupLine}
use Rattle.m3_base.specs.declared.packet.Perm.{Perm}
use Rattle.m3_base.specs.declared.step.Step.{Step}
use Rattle.m3_base.specs.declared.event.Event.{Event}
use Rattle.m3_base.specs.declared.event.Made.{Made}
use Rattle.m3_base.specs.Ideal.State.{State}
use Rattle.m3_base.specs.Ideal.Opening.{opening}
use Rattle.m3_base.specs.Journal.Entry.{steps_of}
use Rattle.m3_base.specs.Ideal.Credits.{credits_held, credits_flying, credits_queued}
use Rattle.m3_base.specs.Placement.State.{Placement, PlacedActivity, actor}
use Rattle.m3_base.specs.Placement.Landing.{PlacementResult}
use Rattle.m3_base.specs.Placement.Step.{placement_step}
use Rattle.m3_base.specs.Placement.Opening.{opening_placement}
use Rattle.m3_base.specs.Placement.Turn.{is_due_quantum}
use Rattle.m3_base.specs.Placement.Driver.{next_event, tiles}
use Rattle.m3_base.specs.declared.program.Move.{Move}
use Rattle.m3_base.specs.declared.program.Seen.{Seen}
use Rattle.m3_pipe_laws.specs.Protocol.{Writer, WriterState, writer_start, writer_step, Reader, ReaderState, reader_start, reader_step, moves_along, state_along, notice}
use Rattle.m3_base.specs.FourBytes.{four_bytes}
use Rattle.m3_pipe_laws.specs.Pipe.{Player, player_along, writer_player, reader_player, written_bytes, read_bytes}

abbrev pub last_4 : List ℕ
last_4 = 16 ∷ 17 ∷ 18 ∷ 19 ∷ []

abbrev pub writer_1 : Writer
writer_1 = record { mem = 0; send = 1; reply = 2; chunk = 16; ring = 2; bytes = tiles ++ last_4 }

abbrev pub reader_1 : Reader
reader_1 = record { mem = 0; recv = 1; chunk = 16; ring = 2 }

abbrev pub mail : List ℕ → Message
mail bytes =
    record {
      header = record {
        flags = 0;
        reply_ep = 0;
        sender = 0;
        lane = 0;
        length = length bytes;
        send = 0;
        reply = 0;
        number = 1;
        label = 0;
      };
      payload = bytes;
    }

abbrev pub after_do : Reply → Seen
after_do answer = Seen.Answer answer

-- ---- the moves by themselves

pub writer_moves : moves_along (writer_step writer_1) writer_start (
    Seen.First
    ∷ after_do Reply.Written
    ∷ after_do Reply.Sent
    ∷ after_do Reply.Written
    ∷ after_do Reply.Sent
    ∷ Seen.Awake
    ∷ after_do (Reply.Fetched 0 (mail (four_bytes 0)))
    ∷ after_do (Reply.Acknowledged None)
    ∷ after_do Reply.Sent
    ∷ Seen.Awake
    ∷ after_do (Reply.Fetched 1 (mail (four_bytes 1)))
    ∷ after_do (Reply.Acknowledged None)
    ∷ Seen.Awake
    ∷ after_do (Reply.Fetched 2 (mail (four_bytes 2)))
    ∷ after_do (Reply.Acknowledged None)
    ∷ []
    )
    ≡ (Move.Do (Command.Write 0 0 tiles)
    ∷ Move.Do (Command.Send 1 (0 ∷ 0 ∷ 0 ∷ 0 ∷ 16 ∷ 0 ∷ 0 ∷ 0 ∷ []) (Some 2))
    ∷ Move.Do (Command.Write 0 16 last_4)
    ∷ Move.Do (Command.Send 1 (1 ∷ 0 ∷ 0 ∷ 0 ∷ 4 ∷ 0 ∷ 0 ∷ 0 ∷ []) (Some 2))
    ∷ Move.Await 2
    ∷ Move.Do (Command.Fetch 2)
    ∷ Move.Do (Command.Acknowledge 2 0)
    ∷ Move.Do (Command.Send 1 (2 ∷ 0 ∷ 0 ∷ 0 ∷ 0 ∷ 0 ∷ 0 ∷ 0 ∷ []) (Some 2))
    ∷ Move.Await 2
    ∷ Move.Do (Command.Fetch 2)
    ∷ Move.Do (Command.Acknowledge 2 1)
    ∷ Move.Await 2
    ∷ Move.Do (Command.Fetch 2)
    ∷ Move.Do (Command.Acknowledge 2 2)
    ∷ Move.Ended
    ∷ [])
writer_moves = refl

abbrev pub seen_by_reader : List Seen
seen_by_reader =
    Seen.First
    ∷ Seen.Awake
    ∷ after_do (Reply.Fetched 0 (mail (notice 0 16)))
    ∷ after_do (Reply.Bytes tiles)
    ∷ after_do Reply.Replied
    ∷ Seen.Awake
    ∷ after_do (Reply.Fetched 1 (mail (notice 1 4)))
    ∷ after_do (Reply.Bytes last_4)
    ∷ after_do Reply.Replied
    ∷ Seen.Awake
    ∷ after_do (Reply.Fetched 2 (mail (notice 2 0)))
    ∷ after_do Reply.Replied
    ∷ []

pub reader_moves : moves_along (reader_step reader_1) reader_start seen_by_reader
    ≡ (Move.Await 1
    ∷ Move.Do (Command.Fetch 1)
    ∷ Move.Do (Command.Read 0 0 16)
    ∷ Move.Do (Command.Reply 1 0 (0 ∷ 0 ∷ 0 ∷ 0 ∷ []))
    ∷ Move.Await 1
    ∷ Move.Do (Command.Fetch 1)
    ∷ Move.Do (Command.Read 0 16 4)
    ∷ Move.Do (Command.Reply 1 1 (1 ∷ 0 ∷ 0 ∷ 0 ∷ []))
    ∷ Move.Await 1
    ∷ Move.Do (Command.Fetch 1)
    ∷ Move.Do (Command.Reply 1 2 (2 ∷ 0 ∷ 0 ∷ 0 ∷ []))
    ∷ Move.Ended
    ∷ [])
reader_moves = refl

pub reader_took :
    (state_along (reader_step reader_1) reader_start seen_by_reader).taken ≡ tiles ++ last_4
reader_took = refl

-- ---- under the driver

abbrev pub setup_p1 : List SetupLine
setup_p1 =
    SetupLine.Act 0 2
    ∷ SetupLine.Act 1 3
    ∷ SetupLine.Grant (GrantLine.Range 0 0 0 32 Perm.Rw)
    ∷ SetupLine.Grant (GrantLine.Part 1 0 1 0 32 Perm.R)
    ∷ SetupLine.Grant (GrantLine.Recv 1 1 2 8)
    ∷ SetupLine.Grant (GrantLine.Recv 0 2 2 4)
    ∷ SetupLine.Grant (GrantLine.Send 0 1 3 1 2)
    ∷ []

pub record Piping : Type 0 where
  pub state : State
  pub places : Placement
  pub writer : Player WriterState
  pub reader : Player ReaderState
  pub steps : List Step

abbrev pub made_of : Option Move → Made
made_of (Some (Move.Do c)) = Made.Command c
made_of (Some (Move.Await ep)) = Made.Await ep
made_of (Some Move.Ended) = Made.End
made_of None = Made.End

abbrev pub wanted_by : Piping → ℕ → Option Move
wanted_by r a = if a == 0 then r.writer.wants else r.reader.wants

abbrev pub move_by : Piping → Option PlacedActivity → Option Made
move_by r None = None
move_by r (Some x) =
    if is_due_quantum r.places x then Some Made.Quantum else Some (made_of (wanted_by r x.act))

abbrev pub made_at : Piping → Event → Option Made
made_at r (Event.Turn a) = move_by r (actor a r.places)
made_at r e = None

abbrev pub piping_after : Piping → State → Placement → List Step → Piping
piping_after r s p ts =
    record {
      state = s;
      places = p;
      writer = player_along (writer_step writer_1) 0 r.writer r.state ts;
      reader = player_along (reader_step reader_1) 1 r.reader r.state ts;
      steps = r.steps ++ ts;
    }

abbrev pub piping_of : Piping → Event → Option Made → Option PlacementResult → Piping
piping_of r e m None = r
piping_of r e m (Some d) =
    piping_after r d.state d.places
    (steps_of e (record { made = m; said = d.said; restore = d.restore }))

abbrev pub piping_step : Piping → Option Event → Piping
piping_step r None = r
piping_step r (Some e) = let m = made_at r e in piping_of r e m (placement_step r.state r.places e m)

abbrev pub piping_auto : ℕ → Piping → Piping
piping_auto zero r = r
piping_auto (suc n) r = piping_auto n (piping_step r (next_event r.state r.places []))

abbrev pub p1 : Piping
p1 =
    piping_auto 120
    (record {
      state = opening 64 setup_p1;
      places = opening_placement (0 ∷ 1 ∷ []) setup_p1;
      writer = writer_player writer_1;
      reader = reader_player reader_1;
      steps = [];
    })

pub record Result : Type 0 where
  pub took : List ℕ
  pub put_in : List ℕ
  pub taken_out : List ℕ
  pub counts : List ℕ
  pub next : Option Event

abbrev pub result : Piping → Result
result r =
    record {
      took = r.reader.at.taken;
      put_in = written_bytes 0 [] (opening 64 setup_p1) r.steps;
      taken_out = read_bytes 1 (opening 64 setup_p1) r.steps;
      counts = credits_held 5 r.state ∷ credits_flying 5 r.state ∷ credits_queued 5 r.state ∷ length r.state.flights ∷ [];
      next = next_event r.state r.places [];
    }

pub row_p1 :
    result p1
    ≡ record {
      took = tiles ++ last_4;
      put_in = tiles ++ last_4;
      taken_out = tiles ++ last_4;
      counts = 2 ∷ 0 ∷ 0 ∷ 0 ∷ [];
      next = None;
    }
row_p1 = refl
