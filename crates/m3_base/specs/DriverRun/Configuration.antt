-- Where a run of the driver is after each entry: an ideal state, its placement, and the orders that
-- are left.
use Rattle.std.specs.Prelude.{List, [], ◌∷◌, Option, Some, None}
use Rattle.m3_base.specs.declared.event.Event.{Event}
use Rattle.m3_base.specs.declared.event.Entry.{Entry}
use Rattle.m3_base.specs.declared.order.Order.{Order}
use Rattle.m3_base.specs.declared.journal.AuditLine.{AuditLine}
use Rattle.m3_base.specs.Ideal.State.{State}
use Rattle.m3_base.specs.Journal.Entry.{next_state}
use Rattle.m3_base.specs.Ideal.Opening.{opening}
use Rattle.m3_base.specs.Placement.State.{Placement}
use Rattle.m3_base.specs.Placement.Landing.{PlacementResult}
use Rattle.m3_base.specs.Placement.Step.{placement_step}
use Rattle.m3_base.specs.Placement.Opening.{placement_at_opening}
use Rattle.m3_base.specs.Journal.Audit.{audit_lines}
use Rattle.m3_base.specs.Setup.Rules.{SetupValue}

-- where a run is: an ideal state, its placement, and the script's orders that are left
pub record Configuration : Type 0 where
  pub state : State
  pub places : Placement
  pub left : List Order

-- before the first entry
abbrev pub initial_configuration : SetupValue → List Order → Configuration
initial_configuration setup orders =
    record {
      state = opening setup.memory setup.lines;
      places = placement_at_opening setup.lines;
      left = orders;
    }

-- ---- after an entry

-- the places after what was done; nothing leaves them
abbrev pub places_after : Placement → Option PlacementResult → Placement
places_after p None = p
places_after p (Some d) = d.places

-- the orders that are left after an event: each order takes the first
abbrev pub orders_after : List Order → Event → List Order
orders_after [] event = []
orders_after (x ∷ xs) (Event.Order o) = xs
orders_after (x ∷ xs) event = x ∷ xs

-- after an entry
abbrev pub configuration_after : Configuration → Entry → Configuration
configuration_after c e =
    record {
      state = next_state c.state e;
      places = places_after c.places (placement_step c.state c.places e.event e.outcome.made);
      left = orders_after c.left e.event;
    }

-- after all entries
abbrev pub last_configuration : Configuration → List Entry → Configuration
last_configuration c [] = c
last_configuration c (e ∷ es) = last_configuration (configuration_after c e) es

-- the audit of a journal
abbrev pub closing_lines : SetupValue → List Order → List Entry → List AuditLine
closing_lines setup orders es =
    let c = last_configuration (initial_configuration setup orders) es in
    audit_lines setup.tiles c.state c.places c.left
