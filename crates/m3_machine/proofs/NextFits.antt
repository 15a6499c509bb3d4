-- What the driver does next names activities of the setup alone and suits its programs, where the orders that are left do.
use Rattle.std.proofs.Common.{◌≡◌, ◌∙◌, List, [], ◌∷◌, Option, Some, None, refl}
use Rattle.std.specs.Prelude.{IfSome}
use Rattle.m3_base.specs.Setup.Rules.{SetupValue, IsValid}
use Rattle.m3_model.specs.SetupOpening.{opened_site}
use Rattle.m3_engine.specs.EngineView.{EngineAt}
use Rattle.m3_machine.specs.EventNames.{NamesActs}
use Rattle.m3_machine.proofs.SetupEvents.{names_of_setup, orders_of_setup}
use Rattle.m3_base.specs.declared.event.Event.{Event}
use Rattle.m3_base.specs.declared.order.Order.{Order}
use Rattle.m3_base.specs.Lists.EachElement.{Each}
use Rattle.m3_base.specs.Placement.Driver.{tiles, first_for, first_some, tend_of, close_of, order_of}
use Rattle.m3_base.specs.Placement.Order.{least_closing}
use Rattle.m3_model.specs.Config.Site.{Site}
use Rattle.m3_model.specs.Events.{IsOfSetup, SuitsPrograms}
use Rattle.m3_model.specs.Invariant.Structure.{MachineStructure}
use Rattle.m3_model.specs.Machine.{Machine, tile_at}
use Rattle.m3_model.specs.ReadyLists.{ReadyOk}
use Rattle.m3_refine.proofs.lists.EachElement.{InSome}
use Rattle.m3_model.specs.Kernel.Driver.{least_tend, next_switch}
use Rattle.m3_trace.specs.DriverOfMachine.{next_event_left, next_take, turn_at}
use Rattle.m3_trace.specs.Continuation.{FitsSetup}
use Rattle.m3_trace.proofs.DriverEventsFit.{next_fits}

abbrev pub IsNamed : Site → Event → Type 0
IsNamed h e = IsOfSetup h e × SuitsPrograms h e

module _ (h : Site) where
  named : (o : Option Event) → InSome (FitsSetup h) o → InSome (IsNamed h) o
  named None k = tt
  named (Some e) k = (k.0, k.2)

  with_order : (a b c w t : Option Event) (x : Event) → InSome (IsNamed h) (first_some (a ∷ b ∷ c ∷ None ∷ w ∷ t ∷ [])) → IsNamed h x → InSome (IsNamed h) (first_some (a ∷ b ∷ c ∷ Some x ∷ w ∷ t ∷ []))
  with_order (Some a) b c w t x k n = k
  with_order None (Some b) c w t x k n = k
  with_order None None (Some c) w t x k n = k
  with_order None None None w t x k n = n

  module _ (m : Machine) (sound : MachineStructure h m) (ready : ReadyOk h m.kernel) where
    -- where no order is left
    none_left : InSome (IsNamed h) (next_event_left h m [])
    none_left = named (next_event_left h m []) (next_fits h m sound ready [] tt)

    pub next_named : (left : List Order) → Each (λ o. IsOfSetup h (Event.Order o)) left → InSome (IsNamed h) (next_event_left h m left)
    next_named [] k = none_left
    next_named (o ∷ os) k =
        with_order (next_take m) (tend_of (least_tend m.kernel.seats)) (close_of (least_closing m.kernel.grants 1 m.kernel.grants)) (next_switch h m.kernel) (first_for tiles (λ t. turn_at h (tile_at t m) (tile_at t m).current)) (Event.Order o) none_left (k.0, tt)

-- by the site of the setup, and the orders that are left
pub by_left : (e : EngineAt) (h : Site) (left given : List Order) (next : Option Event) → next ≡ next_event_left e.site e.machine given → e.site ≡ h → given ≡ left → next ≡ next_event_left h e.machine left
by_left e h left given next is here same = is ∙ (λ k. next_event_left (here k) e.machine (same k))

some_if : (P Q : Event → Type 0) (o : Option Event) → ((e : Event) → P e → Q e) → InSome P o → IfSome o Q
some_if P Q None k x = tt
some_if P Q (Some e) k x = k e x

module _ (s : SetupValue) (m : Machine) (valid : IsValid s) (sound : MachineStructure (opened_site s) m) (ready : ReadyOk (opened_site s) m.kernel) (left : List Order) (named : Each (λ o. NamesActs s (Event.Order o)) left) where
  fits : InSome (IsNamed (opened_site s)) (next_event_left (opened_site s) m left)
  fits = next_named (opened_site s) m sound ready left (orders_of_setup s valid left named)

  pub next_names : IfSome (next_event_left (opened_site s) m left) (NamesActs s)
  next_names = some_if (IsNamed (opened_site s)) (NamesActs s) (next_event_left (opened_site s) m left) (λ e k. names_of_setup s valid e k.0) fits

  pub next_suits : IfSome (next_event_left (opened_site s) m left) (SuitsPrograms (opened_site s))
  next_suits = some_if (IsNamed (opened_site s)) (SuitsPrograms (opened_site s)) (next_event_left (opened_site s) m left) (λ e k. k.1) fits
