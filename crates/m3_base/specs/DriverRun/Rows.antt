-- Worked rows: the budget of a small setup, and a short journal that the driver made.
use Rattle.std.specs.Prelude.{◌≡◌, true, [], ◌∷◌, take, drop, Some}
use Rattle.std.proofs.Common.{refl, arith, inl}
use Rattle.m3_base.specs.declared.event.Event.{Event}
use Rattle.m3_base.specs.declared.order.Order.{Order}
use Rattle.m3_base.specs.declared.journal.AuditLine.{AuditLine}
use Rattle.m3_base.specs.Calls.ShortJournal.{short_setup, short_journal}
use Rattle.m3_base.specs.DriverRun.Budget.{budget}
use Rattle.m3_base.specs.DriverRun.Configuration.{initial_configuration, last_configuration, orders_after, closing_lines}
use Rattle.m3_base.specs.DriverRun.Choices.{choice, IsQuiet, AreChoices, IsDriven}

-- three items, two activities and two grants; each order adds 64
pub short_budget : budget short_setup 0 ≡ 512
short_budget = refl

pub short_budget_with_orders : budget short_setup 3 ≡ 704
short_budget_with_orders = refl

-- an order takes the first that is left, any other event none
pub order_is_spent :
    orders_after (Order.Revoke 1 ∷ Order.Revoke 2 ∷ []) (Event.Order (Order.Revoke 1))
    ≡ Order.Revoke 2 ∷ []
order_is_spent = refl

pub take_spends_none : orders_after (Order.Revoke 1 ∷ []) (Event.Take 2 0) ≡ Order.Revoke 1 ∷ []
take_spends_none = refl

-- the driver's first choice, its whole journal, and the audit of that
pub short_first_choice : choice (initial_configuration short_setup []) ≡ Some (Event.Turn 0)
short_first_choice = refl

pub short_is_quiet :
    IsQuiet (last_configuration (initial_configuration short_setup []) short_journal)
short_is_quiet = refl

pub short_last_choices :
    AreChoices (last_configuration (initial_configuration short_setup []) (take 8 short_journal))
    (drop 8 short_journal)
short_last_choices = (refl, (refl, (refl, (refl, (refl, (refl, (refl, tt)))))))

pub short_is_driven : IsDriven short_setup [] short_journal
short_is_driven =
    record {
      events = (refl, (refl, (refl, (refl, (refl, (refl, (refl, (refl, short_last_choices))))))));
      few = omega arith;
      end = inl refl;
    }

pub short_audit :
    closing_lines short_setup [] short_journal
    ≡ AuditLine.Credit 2 0 0 1 1
    ∷ AuditLine.Tile 2 (Some 1)
    ∷ AuditLine.Flights 0
    ∷ AuditLine.Quiet true
    ∷ []
short_audit = refl
