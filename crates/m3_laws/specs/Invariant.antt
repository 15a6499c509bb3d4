-- The invariant of ideal states.
use Rattle.std.specs.Prelude.{◌≡◌, Some}
use Rattle.m3_base.specs.declared.step.Step.{Step}
use Rattle.m3_base.specs.Ideal.State.{State}
use Rattle.m3_base.specs.Ideal.Step.{IdealResult, ideal_step}
use Rattle.m3_base.specs.Ideal.Opening.{opening}
use Rattle.m3_base.specs.Setup.Rules.{SetupValue, IsValid}
use Rattle.m3_laws.specs.Laws.{Fits}
use Rattle.m3_laws.specs.GrantInvariant.{GrantInvariant}
use Rattle.m3_laws.specs.WellFormed.{WellFormed}
use Rattle.m3_laws.specs.CommandFlights.{CommandsInOrder, CommandsMatchFlights}

-- what holds before the first step and after each
pub record Invariant (s : State) : Type 0 where
  -- grants, records, Installs and Closes, queues, credits
  pub lawful : GrantInvariant s
  -- numbers in their ranges, and the command of each packet
  pub proper : WellFormed s
  -- the flight of each command, the marks of messages, and the numbers of both
  pub commands : CommandsInOrder s.contexts s.flights

abbrev pub InvariantAtOpening : Type 0
InvariantAtOpening = (v : SetupValue) → IsValid v → Invariant (opening v.memory v.lines)

abbrev pub InvariantAfterStep : Type 0
InvariantAfterStep = (s : State) (t : Step) (n : IdealResult) → Fits t → Invariant s → ideal_step s t ≡ Some n → Invariant n.state

abbrev pub InvariantMatches : Type 0
InvariantMatches = (s : State) → Invariant s → CommandsMatchFlights s.contexts s.flights
