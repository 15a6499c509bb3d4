-- What the engine and the programs do in an event.
use Rattle.std.specs.Prelude.{◌≡◌, ◌<◌, ℕ, true, List, slice_set, Option, Some, None, slice_index_or}
use Rattle.m3_base.specs.declared.event.Event.{Event}
use Rattle.m3_base.specs.declared.event.Outcome.{Outcome}
use Rattle.m3_base.specs.declared.program.Move.{Move}
use Rattle.m3_base.specs.declared.program.Seen.{Seen}
use Rattle.m3_model.specs.Config.Site.{has_program}
use Rattle.m3_engine.specs.EngineView.{EngineAt}
use Rattle.m3_engine.specs.ProgramTurn.{IsAsked, IsHeard, ask_of}
use Rattle.m3_machine.specs.ProgramCalls.{IsAlike, AreAlike, meanings_of}

-- nobody who has a program is asked while its last command flies
abbrev pub AreHeard : EngineAt → Type 0
AreHeard e = (a : ℕ) → has_program e.site a ≡ true → IsHeard (ask_of e a)

module _ {P : Type 0} (moves : P → List ℕ → Seen → Move → List ℕ → Type 0) (meaning : P → List ℕ) where
  -- each has its moves and its meaning
  pub record AreKept (old new : List (Option P)) : Type 0 where
    pub alike : AreAlike moves old new
    pub meanings : meanings_of meaning new ≡ meanings_of meaning old

  -- the program of this activity was asked for what its turn wants, and no other
  pub record AsksProgram (e : EngineAt) (a : ℕ) (o : Outcome) (old new : List (Option P)) : Type 0 where
    pub before : P
    pub after : P
    pub low : a < 64
    pub there : slice_index_or old a None ≡ Some before
    pub set : new ≡ slice_set old a (Some after)
    pub alike : IsAlike moves before after
    pub asked : IsAsked (moves before) (meaning before) (meaning after) (ask_of e a) o.made

  -- at a turn its activity's program is asked; no program is at any other event
  abbrev pub AsksOne : EngineAt → Event → Outcome → List (Option P) → List (Option P) → Type 0
  AsksOne e (Event.Turn a) o old new = AsksProgram e a o old new
  AsksOne e event o old new = new ≡ old
