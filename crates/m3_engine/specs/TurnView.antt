-- A turn of a tile, as contracts see it.
use Rattle.std.specs.Prelude.{◌≡◌, ℕ, ◌+◌, ◌<◌, Bool, true, false, not, ◌&&◌, ◌==◌, length, Option, Some, None}
use Rattle.m3_base.specs.declared.event.Made.{Made}
use Rattle.m3_base.specs.declared.event.Outcome.{Outcome}
use Rattle.m3_base.specs.declared.event.Said.{Said}
use Rattle.m3_base.specs.declared.program.Seen.{Seen as ProgramSeen}
use Rattle.m3_base.specs.Ideal.Context.{Context, endpoint}
use Rattle.m3_base.specs.Ideal.Issue.{issue}
use Rattle.m3_base.specs.Ideal.Step.{has_unread}
use Rattle.m3_base.specs.Limits.{is_short}
use Rattle.m3_core.specs.Preconditions.{HasTokenFor}
use Rattle.m3_model.specs.Config.Site.{Site}
use Rattle.m3_model.specs.LocalStep.{LocalResult}
use Rattle.m3_model.specs.Tile.Ask.{Idle_turn, Quantum_turn, Pending_turn, Program_turn}
use Rattle.m3_model.specs.Tile.Ask.{Ask as AskValue}
use Rattle.m3_model.specs.Tile.State.{Resident, Seen, Tile}
use Rattle.m3_model.specs.Tile.Step.{is_waiting, resident_of, turn_await, turn_issued, yield_result}
use Rattle.m3_engine.specs.declared.ask.Ask.{Ask}
use Rattle.m3_engine.specs.declared.tile.TileDid.{TileDid}
use Rattle.m3_engine.specs.ShownSeen.{shown_seen}
use Rattle.m3_engine.specs.TileStepView.{Does}

-- ---- before the turn

abbrev pub ask_kind : AskValue → Ask
ask_kind (Idle_turn why) = Ask.Idle why
ask_kind Quantum_turn = Ask.Quantum
ask_kind (Pending_turn ep) = Ask.Pending ep
ask_kind (Program_turn seen) = Ask.Program

-- what the program is shown of its stay; none while its last command flies
abbrev pub shown_to : Option Resident → Option ProgramSeen
shown_to None = None
shown_to (Some y) = shown_seen y.seen

-- the numbers that the move uses up are below the largest, and its payload is short
abbrev pub CanMove : Context → Resident → Made → Type 0
CanMove x y (Made.Command c) = (x.next < 4294967295) × HasTokenFor x c × (is_short c ≡ true) × (y.moves < 4294967295)
CanMove x y made = Unit {0}

-- its payload, where it has one, has at most 8,192 bytes
abbrev pub IsShort : Option Made → Type 0
IsShort (Some (Made.Command c)) = is_short c ≡ true
IsShort made = Unit {0}

-- the activity can make this move, where it is the current one
abbrev pub CanTurn : Tile → ℕ → Option Made → Type 0
CanTurn t a None = Unit {0}
CanTurn t a (Some made) = (x : Context) (y : Resident) → t.current ≡ Some x → resident_of a t ≡ Some y → CanMove x y made

-- the turn of this stay isn't idle, where it runs with this context
abbrev pub can_move : Context → Resident → Bool
can_move x y = not y.ended && (not (not (length x.flying == 0)) && not (y.yield_sent && is_waiting x y))

abbrev pub can_move_in : Context → Option Resident → Bool
can_move_in x None = false
can_move_in x (Some y) = can_move x y

-- ---- after it

-- of a turn with this move
abbrev pub outcome_made : Made → Said → Outcome
outcome_made made said = record { made = Some made; said = said; restore = None }

-- one more Do move was made, of which the program sees this
abbrev pub after_command : Seen → Resident → Resident
after_command seen y = record y { moves = y.moves + 1; seen = seen }

-- the turn is what the local step says
abbrev pub TurnDoes : TileDid → Tile → Option (LocalResult Tile) → Type 0
TurnDoes did now None = ⊥
TurnDoes did now (Some step) = Does did now step

-- of a turn with this move
abbrev pub made_result : Site → Tile → Context → Resident → Made → LocalResult Tile
made_result h t x y (Made.Command c) = turn_issued h t y (Made.Command c) (issue x c)
made_result h t x y (Made.Await ep) = turn_await t y ep (has_unread (endpoint x ep))
made_result h t x y Made.Quantum = yield_result Made.Quantum Said.Yield t y
made_result h t x y Made.End = yield_result Made.End Said.Ended t (record y { ended = true })
