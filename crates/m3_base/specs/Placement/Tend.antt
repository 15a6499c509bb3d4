-- The front of a hold list is applied to its activity's context.
use Rattle.std.specs.Prelude.{ℕ, not, ◌&&◌, ◌||◌, List, [], ◌∷◌, Option, Some, None, if◌then◌else◌}
use Rattle.m3_base.specs.declared.ids.FlightId.{FlightId}
use Rattle.m3_base.specs.declared.event.IdleWhy.{IdleWhy}
use Rattle.m3_base.specs.Ideal.State.{State}
use Rattle.m3_base.specs.Placement.State.{PlacedActivity, Placement, actor, is_leaving, is_placed, is_resting, join_ready, with_actor}
use Rattle.m3_base.specs.Placement.Routing.{route}
use Rattle.m3_base.specs.Placement.Landing.{LandingResult, PlacementResult, idle_outcome, landing_result, push_closed}
use Rattle.m3_base.specs.Placement.Take.{then_restore}

-- ---- tend

abbrev pub answer_routed : Option FlightId → Placement → Placement
answer_routed None p = p
answer_routed (Some id) p = (route id (actor id.issuer p) p).places

abbrev pub after_tend : ℕ → Placement → Option LandingResult → Option PlacementResult
after_tend t p None = None
after_tend t p (Some c) = then_restore c.said c.state t (push_closed 0 c.freed (answer_routed c.answer p))

abbrev pub tend_front : State → Placement → PlacedActivity → List FlightId → Option PlacementResult
tend_front s p x [] = idle_outcome IdleWhy.EmptyHold s p
tend_front s p x (id ∷ ids) =
    after_tend x.home (
    join_ready (is_resting x.place && (x.has_program && not x.ended)) x.home x.act (with_actor (record x { hold = ids }) p)
    ) (landing_result s id)

abbrev pub tend : State → Placement → Option PlacedActivity → Option PlacementResult
tend s p None = None
tend s p (Some x) =
    if is_placed x.place || is_leaving x.place then idle_outcome IdleWhy.NotResting s p else tend_front s p x x.hold
