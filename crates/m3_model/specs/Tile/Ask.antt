-- What a turn wants of its program before it is made, and the moves that answer it.
use Rattle.std.specs.Prelude.{ℕ, Bool, true, false, not, ◌&&◌, ◌==◌, length, Option, Some, None, if◌then◌else◌}
use Rattle.m3_base.specs.declared.event.IdleWhy.{IdleWhy}
use Rattle.m3_base.specs.declared.event.Made.{Made}
use Rattle.m3_base.specs.Ideal.Context.{Context}
use Rattle.m3_model.specs.Config.Site.{Site}
use Rattle.m3_model.specs.Tile.State.{Resident, Seen, Tile}
use Rattle.m3_model.specs.Tile.Step.{is_due, is_waiting, resident_of}

pub data Ask : Type 0 where
  -- nothing: the turn is idle
  Idle_turn : IdleWhy → Ask
  -- nothing: the quantum of this stay is used up
  Quantum_turn : Ask
  -- nothing: this Await pends
  Pending_turn : ℕ → Ask
  -- a command, an await or its end, now that it sees this
  Program_turn : Seen → Ask

abbrev pub ask_pending : Resident → Option ℕ → Ask
ask_pending y None = Program_turn y.seen
ask_pending y (Some ep) = Pending_turn ep

abbrev pub ask_by : Site → Tile → Context → Option Resident → Ask
ask_by h t x None = Idle_turn IdleWhy.NotCurrent
ask_by h t x (Some y) =
    if y.ended
    then Idle_turn IdleWhy.Ended
    else (
    if not (length x.flying == 0)
    then Idle_turn IdleWhy.Busy
    else (
    if y.yield_sent && is_waiting x y
    then Idle_turn IdleWhy.Waiting
    else (if is_due h t y then Quantum_turn else ask_pending y y.pending)
    )
    )

abbrev pub ask_at : Site → Tile → ℕ → Option Context → Ask
ask_at h t a None = Idle_turn IdleWhy.NotCurrent
ask_at h t a (Some x) = if x.act == a then ask_by h t x (resident_of a t) else Idle_turn IdleWhy.NotCurrent

abbrev pub turn_ask : Site → Tile → ℕ → Ask
turn_ask h t a = ask_at h t a t.current

-- no program decides on its quantum
abbrev pub is_program_move : Made → Bool
is_program_move (Made.Command c) = true
is_program_move (Made.Await ep) = true
is_program_move Made.End = true
is_program_move Made.Quantum = false

abbrev pub is_quantum : Made → Bool
is_quantum Made.Quantum = true
is_quantum made = false

abbrev pub is_await_of : ℕ → Made → Bool
is_await_of ep (Made.Await e) = ep == e
is_await_of ep made = false

-- the moves that such a turn can have
abbrev pub answers_ask : Ask → Option Made → Bool
answers_ask (Idle_turn why) None = true
answers_ask (Idle_turn why) (Some made) = false
answers_ask Quantum_turn None = false
answers_ask Quantum_turn (Some made) = is_quantum made
answers_ask (Pending_turn ep) None = false
answers_ask (Pending_turn ep) (Some made) = is_await_of ep made
answers_ask (Program_turn seen) None = false
answers_ask (Program_turn seen) (Some made) = is_program_move made
