-- Journals that the driver made: the event of each entry is what it chooses next.
use Rattle.std.specs.Prelude.{◌≡◌, ◌≤◌, ◌⊎◌, ℕ, List, [], ◌∷◌, length, Option, Some, None}
use Rattle.m3_base.specs.declared.event.Event.{Event}
use Rattle.m3_base.specs.declared.event.Entry.{Entry}
use Rattle.m3_base.specs.declared.order.Order.{Order}
use Rattle.m3_base.specs.Placement.Driver.{next_event}
use Rattle.m3_base.specs.Setup.Rules.{SetupValue}
use Rattle.m3_base.specs.DriverRun.Budget.{budget}
use Rattle.m3_base.specs.DriverRun.Configuration.{Configuration, initial_configuration, configuration_after, last_configuration}

-- the driver's next event
abbrev pub choice : Configuration → Option Event
choice c = next_event c.state c.places c.left

-- the driver has none
abbrev pub IsQuiet : Configuration → Type 0
IsQuiet c = choice c ≡ None

-- the event of each entry is the driver's choice before it
abbrev pub AreChoices : Configuration → List Entry → Type 0
AreChoices c [] = Unit {0}
AreChoices c (e ∷ es) = (choice c ≡ Some e.event) × AreChoices (configuration_after c e) es

-- the entries end where the machine is quiet, or are so many
abbrev pub Ends : ℕ → Configuration → List Entry → Type 0
Ends most c es = IsQuiet (last_configuration c es) ⊎ (length es ≡ most)

-- the driver made these entries, from the opening up to its end
pub record IsDriven (setup : SetupValue) (orders : List Order) (es : List Entry) : Type 0 where
  pub events : AreChoices (initial_configuration setup orders) es
  pub few : length es ≤ budget setup (length orders)
  pub end : Ends (budget setup (length orders)) (initial_configuration setup orders) es
