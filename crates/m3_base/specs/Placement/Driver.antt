-- What the driver does next.
use Rattle.std.specs.Prelude.{ℕ, Bool, false, not, ◌&&◌, ◌||◌, ◌==◌, List, [], ◌∷◌, length, nat_lt, slice_index_or, Option, Some, None, if◌then◌else◌}
use Rattle.std.specs.List.{list_any}
use Rattle.m3_base.specs.declared.event.Event.{Event}
use Rattle.m3_base.specs.declared.order.Order.{Order}
use Rattle.m3_base.specs.Ideal.State.{State, context_of}
use Rattle.m3_base.specs.Placement.State.{Placement, PlacedActivity, LinkToken, link, actor, current_of, is_placed, is_leaving, ready_at}
use Rattle.m3_base.specs.Placement.Order.{is_moving_at, least_closing}
use Rattle.m3_base.specs.Placement.Turn.{is_waiting_turn, busy_any}

abbrev pub first_some : {X : Type 0} → List (Option X) → Option X
first_some [] = None
first_some (None ∷ os) = first_some os
first_some (Some x ∷ os) = Some x

abbrev pub tiles : List ℕ
tiles = 0 ∷ 1 ∷ 2 ∷ 3 ∷ 4 ∷ 5 ∷ 6 ∷ 7 ∷ 8 ∷ 9 ∷ 10 ∷ 11 ∷ 12 ∷ 13 ∷ 14 ∷ 15 ∷ []

-- the first tile for which there is an event
abbrev pub first_for : List ℕ → (ℕ → Option Event) → Option Event
first_for [] f = None
first_for (t ∷ ts) f = first_some (f t ∷ first_for ts f ∷ [])

abbrev pub take_if : ℕ → ℕ → List LinkToken → Option Event
take_if to from [] = None
take_if to from (t ∷ ts) = Some (Event.Take to from)

-- 1. the take with the least receiving tile, then the least sending tile
abbrev pub next_take : Placement → Option Event
next_take p = first_for tiles (λ dest. first_for tiles (λ from. take_if dest from (link from dest p)))

-- 2. the tend of the least activity of which it can be
abbrev pub can_tend : PlacedActivity → Bool
can_tend x = not (is_placed x.place || is_leaving x.place) && not (length x.hold == 0)

abbrev pub least_of : Option ℕ → ℕ → ℕ
least_of None a = a
least_of (Some b) a = if nat_lt b a then b else a

abbrev pub least_tend : List PlacedActivity → Option ℕ
least_tend [] = None
least_tend (x ∷ xs) = if can_tend x then Some (least_of (least_tend xs) x.act) else least_tend xs

abbrev pub tend_of : Option ℕ → Option Event
tend_of None = None
tend_of (Some a) = Some (Event.Tend a)

-- 3. close, where a grant is due
abbrev pub close_of : Option ℕ → Option Event
close_of None = None
close_of (Some g) = Some Event.Close

-- 4. the next order of the script
abbrev pub order_of : List Order → Option Event
order_of [] = None
order_of (o ∷ os) = Some (Event.Order o)

-- 5. the switch of the least tile that wants one, to the front of its ready list
abbrev pub switch_to : ℕ → List ℕ → Option Event
switch_to t [] = None
switch_to t (a ∷ as') = Some (Event.Order (Order.Switch t a))

abbrev pub wanted_at : Placement → ℕ → Option Event
wanted_at p t =
    if not (list_any (is_moving_at t) p.actors) && slice_index_or p.yielded t false then switch_to t (ready_at t p) else None

-- 6. the turn of a tile's current activity that isn't idle
abbrev pub can_turn : State → PlacedActivity → Bool
can_turn s x = x.has_program && (not x.ended && (not (busy_any (context_of x.act s.contexts)) && not (is_waiting_turn s x)))

abbrev pub turn_by : State → Option PlacedActivity → Option Event
turn_by s None = None
turn_by s (Some x) = if can_turn s x then Some (Event.Turn x.act) else None

abbrev pub actor_at : Placement → Option ℕ → Option PlacedActivity
actor_at p None = None
actor_at p (Some a) = actor a p

abbrev pub next_event : State → Placement → List Order → Option Event
next_event s p left =
    first_some (
    next_take p
    ∷ tend_of (least_tend p.actors)
    ∷ close_of (least_closing s.grants 1 s.grants)
    ∷ order_of left
    ∷ first_for tiles (wanted_at p)
    ∷ first_for tiles (λ t. turn_by s (actor_at p (current_of t p)))
    ∷ []
    )
