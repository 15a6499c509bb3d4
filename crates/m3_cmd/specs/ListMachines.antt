-- Machines whose programs are those of their setup: lists of items.
use Rattle.std.specs.Prelude.{◌≡◌, ◌++◌, List, [], map, Option}
use Rattle.std.specs.List.{All}
use Rattle.m3_base.specs.declared.event.Event.{Event}
use Rattle.m3_base.specs.declared.event.Entry.{Entry}
use Rattle.m3_base.specs.declared.order.Order.{Order}
use Rattle.m3_base.specs.DriverRun.Configuration.{initial_configuration}
use Rattle.m3_base.specs.Setup.Rules.{SetupValue}
use Rattle.m3_model.specs.Events.{SuitsPrograms}
use Rattle.m3_model.specs.SetupOpening.{opened_site}
use Rattle.m3_machine.specs.EventNames.{NamesActs}
use Rattle.m3_machine.specs.MachineView.{MachineValue, configuration}
use Rattle.m3_machine.specs.ProgramTable.{program_table}
use Rattle.m3_programs.specs.ListProgramView.{ListState}
use Rattle.m3_programs.specs.SetupPrograms.{setup_programs}
use Rattle.m3_script.specs.Rules.{AllListed}

-- the list programs of a setup, by the numbers of their activities
abbrev pub setup_table : SetupValue → List (Option ListState)
setup_table setup = program_table (setup_programs setup.lines)

-- a machine of this setup, with its list programs
pub record IsOf (setup : SetupValue) (m : MachineValue ListState) : Type 0 where
  pub setup_is : m.setup ≡ setup
  pub initial : m.initial ≡ setup_table setup
  pub listed : AllListed setup.lines

-- nothing was done since it was opened, and these orders are left
pub record IsOpened (setup : SetupValue) (orders : List Order) (m : MachineValue ListState) : Type 0 where
  pub of : IsOf setup m
  pub entries : m.entries ≡ []
  pub left : m.left ≡ orders
  pub start : configuration m ≡ initial_configuration setup orders

-- ---- events

-- the event names activities of the setup, and is a turn just of an activity that has a program
abbrev pub IsMakeable : SetupValue → Event → Type 0
IsMakeable setup e = NamesActs setup e × SuitsPrograms (opened_site setup) e

abbrev pub AreMakeable : SetupValue → List Event → Type 0
AreMakeable setup events = All (IsMakeable setup) events

abbrev pub event_of : Entry → Event
event_of e = e.event

-- the entries of these events were added, in this order
pub record Follows (old : MachineValue ListState) (events : List Event) (new : MachineValue ListState) : Type 0 where
  pub same : new.setup ≡ old.setup
  pub initial : new.initial ≡ old.initial
  pub none_left : old.left ≡ [] → new.left ≡ []
  pub made : List Entry
  pub added : new.entries ≡ old.entries ++ made
  pub follows : map event_of made ≡ events

-- a machine of this setup made these events, from its opening, and no order is left
pub record HasMade (setup : SetupValue) (events : List Event) (m : MachineValue ListState) : Type 0 where
  pub of : IsOf setup m
  pub follows : map event_of m.entries ≡ events
  pub none_left : m.left ≡ []
