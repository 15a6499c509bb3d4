-- Orders of the kernel, and Closes.
use Rattle.std.specs.Prelude.{ℕ, ◌+◌, Bool, false, not, ◌&&◌, ◌||◌, ◌==◌, List, [], ◌∷◌, Option, Some, None, if◌then◌else◌}
use Rattle.std.specs.List.{list_any}
use Rattle.m3_base.specs.declared.step.Step.{Step}
use Rattle.m3_base.specs.declared.order.Order.{Order}
use Rattle.m3_base.specs.declared.event.Said.{Said}
use Rattle.m3_base.specs.declared.event.No.{No}
use Rattle.m3_base.specs.declared.event.IdleWhy.{IdleWhy}
use Rattle.m3_base.specs.Ideal.Flights.{flight}
use Rattle.m3_base.specs.Ideal.State.{State, Grant}
use Rattle.m3_base.specs.Ideal.GrantRules.{may_close, kernel_id}
use Rattle.m3_base.specs.Ideal.Step.{RunResult, ideal_run}
use Rattle.m3_base.specs.Journal.Entry.{said_of, ran_to}
use Rattle.m3_base.specs.Placement.State.{Coming, Leaving, PlacedActivity, Placement, Save, actor, at_place, is_coming, is_leaving, is_placed, leave_ready, with_token}
use Rattle.m3_base.specs.Placement.Routing.{Routed, actor_for, route, target_of}
use Rattle.m3_base.specs.Placement.Landing.{PlacementResult, idle_outcome, said_or_nothing, step_outcome}

-- ---- orders

abbrev pub placed_at : ℕ → List PlacedActivity → Option PlacedActivity
placed_at t [] = None
placed_at t (x ∷ xs) = if (x.home == t) && is_placed x.place then Some x else placed_at t xs

abbrev pub is_moving_at : ℕ → PlacedActivity → Bool
is_moving_at t x = (x.home == t) && (is_leaving x.place || is_coming x.place)

abbrev pub after_switch : State → Placement → ℕ → PlacedActivity → Option PlacedActivity → Option PlacementResult
after_switch s p t x None = None
after_switch s p t x (Some b) =
    step_outcome (Said.Save b.act) s (
    leave_ready t x.act (with_token 0 t (Save b.act) (at_place Coming x (at_place Leaving b p)))
    )

abbrev pub switch : State → Placement → ℕ → Option PlacedActivity → Option PlacementResult
switch s p t None = None
switch s p t (Some x) =
    if not (x.home == t)
    then step_outcome (Said.No No.NotHome) s p
    else (
    if is_placed x.place || is_coming x.place
    then step_outcome (Said.No No.Already) s p
    else (
    if list_any (is_moving_at t) p.actors
    then step_outcome (Said.No No.Leaving) s p
    else after_switch s p t x (placed_at t p.actors)
    )
    )

abbrev pub order_by : State → Routed → Option RunResult → Option PlacementResult
order_by s r None = None
order_by s r (Some x) = step_outcome (said_or_nothing (said_of r.held x.words)) x.state r.places

-- a new packet of the kernel is routed where one arose
abbrev pub route_new : State → State → Placement → Routed
route_new s n p =
    if n.kernel_next == s.kernel_next
    then record { held = false; places = p }
    else route (kernel_id s) (actor_for (target_of (flight (kernel_id s) n.flights)) p) p

abbrev pub kernel_step : State → Placement → List Step → Option PlacementResult
kernel_step s p steps = order_by s (route_new s (ran_to (ideal_run steps s) s) p) (ideal_run steps s)

abbrev pub order : State → Placement → Order → Option PlacementResult
order s p (Order.Switch t a) = switch s p t (actor a p)
order s p (Order.Grant line) = kernel_step s p (Step.Make line ∷ [])
order s p (Order.Revoke g) = kernel_step s p (Step.Revoke g ∷ [])

-- the least grant that may close, of those from n on
abbrev pub least_closing : List Grant → ℕ → List Grant → Option ℕ
least_closing all n [] = None
least_closing all n (x ∷ gs) = if may_close all n (Some x) then Some n else least_closing all (n + 1) gs

abbrev pub close_least : State → Placement → Option ℕ → Option PlacementResult
close_least s p None = idle_outcome IdleWhy.NothingToClose s p
close_least s p (Some g) = kernel_step s p (Step.Close g ∷ [])
