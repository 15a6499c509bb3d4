-- Takes: at a tile, at the kernel, at the memory.
use Rattle.std.specs.Prelude.{ℕ, Bool, true, false, not, ◌&&◌, ◌||◌, ◌==◌, List, [], ◌∷◌, length, Option, Some, None, is_some, if◌then◌else◌}
use Rattle.std.specs.List.{list_any}
use Rattle.m3_base.specs.declared.ids.FlightId.{FlightId}
use Rattle.m3_base.specs.declared.step.Step.{Step}
use Rattle.m3_base.specs.declared.event.Said.{Said}
use Rattle.m3_base.specs.declared.event.IdleWhy.{IdleWhy}
use Rattle.m3_base.specs.Ideal.Flights.{flight}
use Rattle.m3_base.specs.Ideal.Context.{Context, endpoint}
use Rattle.m3_base.specs.Ideal.State.{State, context_of}
use Rattle.m3_base.specs.Ideal.Step.{RunResult, ideal_run, has_unread}
use Rattle.m3_base.specs.Journal.Entry.{said_of}
use Rattle.m3_base.specs.Placement.State.{Closed, Data, LinkToken, Placed, PlacedActivity, Placement, Resting, Restore, Save, Saved, Yield, actor, at_place, current_of, home, is_coming, is_leaving, join_ready, with_actor, with_current, with_link, with_token, with_yielded}
use Rattle.m3_base.specs.Placement.Routing.{Routed, actor_for, route, target_of, with_held}
use Rattle.m3_base.specs.Placement.Landing.{LandingResult, PlacementResult, idle_outcome, landing_result, push_answer, push_closed, said_or_nothing, step_outcome}

-- ---- takes at a tile

abbrev pub is_here : Option ℕ → Option ℕ → Bool
is_here (Some a) (Some b) = a == b
is_here a b = false

abbrev pub land_here : ℕ → Placement → Option LandingResult → Option PlacementResult
land_here t p None = None
land_here t p (Some c) = step_outcome c.said c.state (push_closed t c.freed (push_answer t c.answer p))

-- data for another activity goes to the kernel; a read or a write is for none, and no tile but 1 takes it
abbrev pub bounced : State → Placement → ℕ → FlightId → Option ℕ → Option PlacementResult
bounced s p t id None = None
bounced s p t id (Some a) = step_outcome (Said.Bounced id) s (with_token t 0 (Data id) p)

abbrev pub take_data : State → Placement → ℕ → FlightId → Option PlacementResult
take_data s p t id =
    if (t == 1) || is_here (target_of (flight id s.flights)) (current_of t p)
    then land_here t p (landing_result s id)
    else bounced s p t id (target_of (flight id s.flights))

abbrev pub has_unread_at : Option Context → Option ℕ → Bool
has_unread_at (Some c) (Some ep) = has_unread (endpoint c ep)
has_unread_at c ep = false

-- a pending Await without an unread message
abbrev pub is_waiting : State → Option PlacedActivity → Bool
is_waiting s None = false
is_waiting s (Some x) = is_some x.pending && not (has_unread_at (context_of x.act s.contexts) x.pending)

abbrev pub has_ended : Option PlacedActivity → Bool
has_ended None = false
has_ended (Some x) = x.ended

abbrev pub new_stay : Option PlacedActivity → Placement → Placement
new_stay None p = p
new_stay (Some x) p = with_actor (record x { moves = 0; yield_sent = false }) p

abbrev pub take_at_tile : State → Placement → ℕ → LinkToken → Option PlacementResult
take_at_tile s p t (Data id) = take_data s p t id
take_at_tile s p t (Save a) =
    step_outcome (Said.Saving a) s (
    with_token t 0 (Saved a (is_waiting s (actor a p)) (has_ended (actor a p))) (with_current t None p)
    )
take_at_tile s p t (Restore a) = step_outcome (Said.Current a) s (new_stay (actor a p) (with_current t (Some a) p))
take_at_tile s p t token = None

-- ---- takes at the kernel

-- the activity of the tile that comes, with nothing held
abbrev pub is_due : ℕ → PlacedActivity → Bool
is_due t x = (x.home == t) && (is_coming x.place && (length x.hold == 0))

abbrev pub first_due : ℕ → List PlacedActivity → Option PlacedActivity
first_due t [] = None
first_due t (x ∷ xs) = if is_due t x then Some x else first_due t xs

abbrev pub is_leaving_at : ℕ → PlacedActivity → Bool
is_leaving_at t x = (x.home == t) && is_leaving x.place

abbrev pub with_restore : Said → State → Placement → Option PlacedActivity → Option PlacementResult
with_restore said s p None = step_outcome said s p
with_restore said s p (Some x) =
    Some (record {
      said = said;
      restore = Some x.act;
      state = s;
      places = with_yielded x.home false (with_token 0 x.home (Restore x.act) (at_place Placed x p));
    })

-- Restore goes out where the tile has nobody leaving and the one that comes has nothing held
abbrev pub then_restore : Said → State → ℕ → Placement → Option PlacementResult
then_restore said s t p = with_restore said s p (if list_any (is_leaving_at t) p.actors then None else first_due t p.actors)

abbrev pub saved_in : State → Placement → Bool → Bool → Option PlacedActivity → Option PlacementResult
saved_in s p waiting ended None = None
saved_in s p waiting ended (Some x) =
    then_restore (Said.Saved x.act) s x.home (
    join_ready (x.has_program && (not waiting && not ended)) x.home x.act (at_place Resting x p)
    )

abbrev pub routing_outcome : FlightId → Option ℕ → Bool → Said
routing_outcome id (Some a) true = Said.Held id a
routing_outcome id a with_held = Said.Routed id

abbrev pub by_route : FlightId → Option ℕ → State → Routed → Option PlacementResult
by_route id a s r = step_outcome (routing_outcome id a r.held) s r.places

abbrev pub done_by : State → Placement → Option RunResult → Option PlacementResult
done_by s p None = None
done_by s p (Some r) = step_outcome (said_or_nothing (said_of false r.words)) r.state p

abbrev pub take_at_kernel : State → Placement → LinkToken → Option PlacementResult
take_at_kernel s p (Data id) =
    let a = target_of (flight id s.flights) in
    by_route id a s (route id (actor_for a p) p)
take_at_kernel s p (Saved a waiting ended) = saved_in s p waiting ended (actor a p)
take_at_kernel s p (Yield a) = step_outcome (Said.Yielded a) s (with_yielded (home a p) true p)
take_at_kernel s p (Closed g) = done_by s p (ideal_run (Step.Done g ∷ []) s)
take_at_kernel s p token = None

abbrev pub take : State → Placement → ℕ → ℕ → List LinkToken → Option PlacementResult
take s p to from [] = idle_outcome IdleWhy.EmptyLink s p
take s p to from (t ∷ ts) =
    let q = with_link from to ts p in
    if to == 0 then take_at_kernel s q t else take_at_tile s q to t
