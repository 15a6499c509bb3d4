-- What one step of a machine is, and what the driver's steps are.
use Rattle.std.specs.Prelude.{◌≡◌, ◌⊎◌, ◌≤◌, ◌++◌, ◌∷◌, [], ℕ, Bool, true, false, List, length, Some}
use Rattle.m3_base.specs.declared.event.Event.{Event}
use Rattle.m3_base.specs.declared.event.Entry.{Entry}
use Rattle.m3_base.specs.declared.event.Outcome.{Outcome}
use Rattle.m3_base.specs.declared.program.Move.{Move}
use Rattle.m3_base.specs.declared.program.Seen.{Seen}
use Rattle.m3_base.specs.Calls.JournalCalls.{Call, call_in, last_input}
use Rattle.m3_base.specs.DriverRun.Choices.{AreChoices, IsQuiet}
use Rattle.m3_base.specs.DriverRun.Configuration.{last_configuration, orders_after}
use Rattle.m3_base.specs.Ideal.Opening.{opening}
use Rattle.m3_base.specs.Journal.Entry.{EntryMatches, next_state}
use Rattle.m3_base.specs.Placement.EntryStep.{IsPlacementStep}
use Rattle.m3_model.specs.Machine.{machine_step}
use Rattle.m3_model.specs.SetupOpening.{opened_site}
use Rattle.m3_trace.specs.IdleOutcomes.{IsIdle}
use Rattle.m3_trace.specs.JournalEntry.{entry}
use Rattle.m3_machine.specs.MachineView.{MachineValue, ideal, placement, configuration}
use Rattle.m3_machine.specs.ProgramCalls.{AreCalled}

-- the calls of each program in the next entry
abbrev pub calls_of_entry : {P : Type 0} → MachineValue P → Event → Outcome → ℕ → List Call
calls_of_entry w e o a = call_in a (last_input a (opening w.setup.memory w.setup.lines) w.entries) e o

module _ {P : Type 0} (moves : P → List ℕ → Seen → Move → List ℕ → Type 0) where
  -- one entry of this event was added, which says what the ideal machine's steps say; they lead to the ideal state that
  -- the machine then stands for, and its placement moves by it; the machine moved as the local step of the event's part
  -- says, and each program by its calls in the entry; an order takes the first that is left
  pub record IsStep (old : MachineValue P) (e : Event) (new : MachineValue P) : Type 0 where
    pub outcome : Outcome
    pub added : new.entries ≡ old.entries ++ entry e outcome ∷ []
    pub says : EntryMatches (ideal old) (entry e outcome)
    pub reaches : next_state (ideal old) (entry e outcome) ≡ ideal new
    pub placed : IsPlacementStep (ideal old) (placement old) (entry e outcome) (placement new)
    -- an idle outcome left both as they were
    pub idle : IsIdle outcome.said → (ideal new ≡ ideal old) × (placement new ≡ placement old)
    pub moved : machine_step (opened_site old.setup) old.machine e outcome.made
        ≡ Some (record { outcome = outcome; machine = new.machine })
    pub left : new.left ≡ orders_after old.left e
    pub calls : AreCalled moves old.initial old.meanings (calls_of_entry old e outcome) new.meanings
    pub setup : new.setup ≡ old.setup
    pub initial : new.initial ≡ old.initial

-- ---- the driver's steps

-- the driver made further entries, each where there weren't so many
pub record IsDrivenOn {P : Type 0} (budget : ℕ) (old new : MachineValue P) : Type 0 where
  pub made : List Entry
  pub added : new.entries ≡ old.entries ++ made
  pub choices : AreChoices (configuration old) made
  pub reaches : last_configuration (configuration old) made ≡ configuration new
  pub few : (made ≡ []) ⊎ (length new.entries ≤ budget)
  pub setup : new.setup ≡ old.setup
  pub initial : new.initial ≡ old.initial

-- the driver has no more to do, or there are so many entries
abbrev pub AutoEnds : {P : Type 0} → ℕ → Bool → MachineValue P → Type 0
AutoEnds budget true w = IsQuiet (configuration w)
AutoEnds budget false w = (budget ≤ length w.entries) × (IsQuiet (configuration w) → ⊥)
