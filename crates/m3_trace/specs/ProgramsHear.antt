-- The theorem on what programs hear: a program sees at each of its turns what the journal says, wherever its context was
-- when that came, and is called there alone.
use Rattle.std.specs.Prelude.{◌≡◌, ℕ, true, List, [], ◌∷◌, ◌++◌, Option, Some}
use Rattle.m3_base.specs.declared.event.Entry.{Entry}
use Rattle.m3_base.specs.declared.event.Event.{Event}
use Rattle.m3_base.specs.declared.event.Made.{Made}
use Rattle.m3_base.specs.declared.event.Outcome.{Outcome}
use Rattle.m3_base.specs.declared.program.Seen as program
use Rattle.m3_base.specs.Calls.JournalCalls.{Known, PendingAnswer, all_calls, last_input}
use Rattle.m3_base.specs.Ideal.Opening.{opening}
use Rattle.m3_base.specs.Ideal.State.{State}
use Rattle.m3_base.specs.Setup.Rules.{SetupValue}
use Rattle.m3_model.specs.Abstraction.{ideal_of}
use Rattle.m3_model.specs.Config.KnownActivities.{is_home}
use Rattle.m3_model.specs.Config.Site.{Site, tile_of}
use Rattle.m3_model.specs.Machine.{Machine, machine_step, tile_at}
use Rattle.m3_model.specs.SetupOpening.{opened_site}
use Rattle.m3_model.specs.Tile.Ask.{Program_turn, turn_ask}
use Rattle.m3_model.specs.Tile.State.{Seen}
use Rattle.m3_trace.specs.Hearing.{IsFlying, call_asked, input_of_seen, program_input}
use Rattle.m3_trace.specs.JournalEntry.{entry}
use Rattle.m3_trace.specs.ProgramEnds.{EndsLast}
use Rattle.m3_trace.specs.Trace.{IsTrace}

-- of the program of activity a: h is the machine's site, start the ideal state that its setup opens
pub record ProgramHears (h : Site) (start : State) (entries : List Entry) (m : Machine) (a : ℕ) : Type 0 where
  -- what the machine has for it to see is what the journal says
  pub input : last_input a start entries ≡ program_input h m a
  -- where it waits for an answer, that command of it flies
  pub waits : (n : ℕ) → last_input a start entries ≡ PendingAnswer n → IsFlying a n (ideal_of m)
  -- where its turn asks it for a move, it sees what the journal says, and that is known
  pub asked : (seen : Seen) → turn_ask h (tile_at (tile_of h a) m) a ≡ Program_turn seen
      → (see : program.Seen) × (input_of_seen seen ≡ Known see) × (last_input a start entries ≡ Known see)
  -- an entry more has one call of it more just where its turn asks it, with what it sees and the move that it makes
  pub calls : (e : Event) (made : Option Made) (o : Outcome) (next : Machine)
      → machine_step h m e made ≡ Some (record { outcome = o; machine = next })
      → all_calls a start (entries ++ entry e o ∷ []) ≡ all_calls a start entries ++ call_asked h m a e o
  -- no call of it comes after its end
  pub last : EndsLast (all_calls a start entries)

abbrev pub ProgramsHear : Type 0
ProgramsHear = (s : SetupValue) (entries : List Entry) (m : Machine) → IsTrace s entries m
    → (a : ℕ) → is_home (opened_site s) a ≡ true → ProgramHears (opened_site s) (opening s.memory s.lines) entries m a
