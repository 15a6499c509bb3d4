-- What a turn asks of its program, and what the program answers.
use Rattle.std.specs.Prelude.{◌≡◌, ◌≢◌, ℕ, true, Option, Some, None}
use Rattle.m3_base.specs.declared.event.Made.{Made}
use Rattle.m3_base.specs.declared.program.Move.{Move}
use Rattle.m3_base.specs.declared.program.Seen.{Seen}
use Rattle.m3_base.specs.Programs.{is_short_move}
use Rattle.m3_model.specs.Config.Site.{tile_of}
use Rattle.m3_model.specs.Machine.{tile_at}
use Rattle.m3_model.specs.Tile.Ask.{Ask, Idle_turn, Quantum_turn, Pending_turn, Program_turn, turn_ask}
use Rattle.m3_model.specs.Tile.State.{Waits}
use Rattle.m3_model.specs.Tile.State.{Seen as SeenValue}
use Rattle.m3_engine.specs.EngineView.{EngineAt}
use Rattle.m3_engine.specs.ShownSeen.{shown_seen}

-- what a turn of this activity asks for
abbrev pub ask_of : EngineAt → ℕ → Ask
ask_of e a = turn_ask e.site (tile_at (tile_of e.site a) e.machine) a

-- a program that is asked isn't left without the answer to its last command
abbrev pub IsHeard : Ask → Type 0
IsHeard ask = (n : ℕ) → ask ≢ Program_turn (Waits n)

-- a program's move, as an entry tells it
abbrev pub made_of : Move → Made
made_of (Move.Do c) = Made.Command c
made_of (Move.Await ep) = Made.Await ep
made_of Move.Ended = Made.End

module _ {M : Type 0} (moves : M → Seen → Move → M → Type 0) where
  -- the program saw this, and made this move
  pub record IsMove (old new : M) (seen : Seen) (made : Made) : Type 0 where
    pub move : Move
    pub moved : moves old seen move new
    pub short : is_short_move move ≡ true
    pub told : made ≡ made_of move

  -- the program was shown what it is to see, and the turn is the move that it made
  pub record IsProgramMove (old new : M) (value : SeenValue) (made : Option Made) : Type 0 where
    pub seen : Seen
    pub move : Move
    pub shown : shown_seen value ≡ Some seen
    pub moved : moves old seen move new
    pub short : is_short_move move ≡ true
    pub told : made ≡ Some (made_of move)

  -- the turn's move is what is asked for, and the program moves where it is asked alone
  abbrev pub IsAsked : M → M → Ask → Option Made → Type 0
  IsAsked old new (Idle_turn why) made = (made ≡ None) × (new ≡ old)
  IsAsked old new Quantum_turn made = (made ≡ Some Made.Quantum) × (new ≡ old)
  IsAsked old new (Pending_turn ep) made = (made ≡ Some (Made.Await ep)) × (new ≡ old)
  IsAsked old new (Program_turn value) made = IsProgramMove old new value made
