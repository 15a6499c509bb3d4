-- A machine with its setup, its entries, its orders and its programs, as contracts see it.
use Rattle.std.specs.Prelude.{◌≡◌, ℕ, List, length, Option}
use Rattle.m3_base.specs.declared.event.Event.{Event}
use Rattle.m3_base.specs.declared.event.Entry.{Entry}
use Rattle.m3_base.specs.declared.order.Order.{Order}
use Rattle.m3_base.specs.declared.program.Move.{Move}
use Rattle.m3_base.specs.declared.program.Seen.{Seen}
use Rattle.m3_base.specs.Calls.JournalCalls.{all_calls}
use Rattle.m3_base.specs.DriverRun.Configuration.{Configuration}
use Rattle.m3_base.specs.Ideal.Opening.{opening}
use Rattle.m3_base.specs.Ideal.State.{State}
use Rattle.m3_base.specs.Lists.EachElement.{Each}
use Rattle.m3_base.specs.Placement.State.{Placement}
use Rattle.m3_base.specs.Setup.Rules.{SetupValue}
use Rattle.m3_model.specs.Abstraction.{ideal_of, placement_of}
use Rattle.m3_model.specs.Machine.{Machine}
use Rattle.m3_model.specs.SetupOpening.{opened_site}
use Rattle.m3_trace.specs.Trace.{IsTrace}
use Rattle.m3_engine.specs.EngineView.{EngineAt}
use Rattle.m3_machine.specs.EventNames.{NamesActs}
use Rattle.m3_machine.specs.ProgramCalls.{HasPrograms, AreCalled, AreAlike, meanings_of}

pub record MachineValue (P : Type 0) : Type 0 where
  pub setup : SetupValue
  pub machine : Machine
  pub entries : List Entry
  -- the orders that aren't carried out yet
  pub left : List Order
  -- by the activities' numbers: the programs at opening, and what they mean now
  pub initial : List (Option P)
  pub meanings : List (Option (List ℕ))

module _ {P : Type 0} where
  -- the state of the ideal machine that it stands for
  abbrev pub ideal : MachineValue P → State
  ideal w = ideal_of w.machine

  -- where each activity and each packet is
  abbrev pub placement : MachineValue P → Placement
  placement w = placement_of (opened_site w.setup) w.machine

  -- where the driver's run is
  abbrev pub configuration : MachineValue P → Configuration
  configuration w = record { state = ideal w; places = placement w; left = w.left }

-- what holds of every machine
module _ {P : Type 0} (meaning : P → List ℕ) (moves : P → List ℕ → Seen → Move → List ℕ → Type 0) where
  pub record HasBounds (setup : SetupValue) (entries : List Entry) (n : ℕ) (engine : EngineAt) (left : List Order)
      (initial programs : List (Option P)) : Type 0 where
    -- n is how many entries there are
    pub count : n ≡ length entries
    pub site : engine.site ≡ opened_site setup
    pub trace : IsTrace setup entries engine.machine
    -- the orders that are left name activities of the setup
    pub orders : Each (λ o. NamesActs setup (Event.Order o)) left
    -- there is a program where the setup gives one, with the moves of the one at opening
    pub places : length programs ≡ 64
    pub there : HasPrograms (opened_site setup) initial
    pub alike : AreAlike moves initial programs
    -- its calls in the journal lead from what it meant at opening to what it means now
    pub calls : AreCalled moves initial (meanings_of meaning initial)
        (λ a. all_calls a (opening setup.memory setup.lines) entries) (meanings_of meaning programs)
