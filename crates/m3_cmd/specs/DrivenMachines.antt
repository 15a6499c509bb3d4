-- Machines that the driver ran.
use Rattle.std.specs.Prelude.{◌≡◌, ℕ, Bool, List, map}
use Rattle.m3_base.specs.declared.event.Event.{Event}
use Rattle.m3_base.specs.declared.order.Order.{Order}
use Rattle.m3_base.specs.DriverRun.Choices.{IsDriven}
use Rattle.m3_base.specs.DriverRun.Configuration.{initial_configuration, last_configuration}
use Rattle.m3_base.specs.Setup.Rules.{SetupValue}
use Rattle.m3_machine.specs.MachineView.{MachineValue, configuration}
use Rattle.m3_programs.specs.ListProgramView.{ListState}
use Rattle.m3_cmd.specs.DriverContract.{EndsQuiet, IsDrivenTextOf}
use Rattle.m3_cmd.specs.ListMachines.{IsOf}
use Rattle.m3_cmd.specs.declared.words.Format.{Format}

-- the driver made the machine's entries, from the opening of the setup with these orders left
pub record IsDrivenBy (setup : SetupValue) (orders : List Order) (quiet : Bool) (m : MachineValue ListState) : Type 0 where
  pub of : IsOf setup m
  pub driven : IsDriven setup orders m.entries
  pub reaches : last_configuration (initial_configuration setup orders) m.entries ≡ configuration m
  pub ends : EndsQuiet quiet (configuration m)

-- the text is that of a journal of this setup and of the orders that these events are
pub record IsDrivenScript (format : Format) (setup : SetupValue) (events : List Event) (quiet : Bool) (text : List ℕ) : Type 0 where
  pub orders : List Order
  pub are : map Event.Order orders ≡ events
  pub is_text : IsDrivenTextOf format setup orders quiet text
