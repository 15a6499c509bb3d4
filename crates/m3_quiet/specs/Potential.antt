-- A number that each event which isn't idle lowers.
use Rattle.std.specs.Prelude.{ℕ, ◌+◌, ◌*◌, ◌/◌, ◌%◌, Bool, not, ◌&&◌, ◌||◌, ◌==◌, nat_lt, List, [], ◌∷◌, length, slice_index_or, Option, Some, None, is_some, if◌then◌else◌}
use Rattle.m3_base.specs.declared.ids.FlightId.{FlightId}
use Rattle.m3_base.specs.declared.packet.Packet.{Packet}
use Rattle.m3_base.specs.Lists.Counting.{total, one}
use Rattle.m3_base.specs.Ideal.Flights.{flight}
use Rattle.m3_base.specs.Ideal.State.{State, Grant, is_done}
use Rattle.m3_base.specs.Placement.State.{Placement, PlacedActivity, LinkToken, Data, Save, Saved, Restore, Yield, Closed, is_leaving, is_coming}
use Rattle.m3_base.specs.Placement.Take.{is_waiting}
use Rattle.m3_base.specs.Ideal.State.{is_number}

-- ---- packets

-- a data packet, wherever it is
abbrev pub packet_worth : Option Packet → ℕ
packet_worth None = 0
packet_worth (Some (Packet.Message to ep grant message)) = 15
packet_worth (Some (Packet.Credit id to grant)) = 6
packet_worth (Some (Packet.Read id grant place buffer)) = 9
packet_worth (Some (Packet.Write id grant place payload)) = 9
packet_worth (Some (Packet.Answer id answer)) = 6
packet_worth (Some (Packet.Install id to ep fresh)) = 6
packet_worth (Some (Packet.Close id to ep grant)) = 6

-- by its link: to tile 0; from tile 0 to another; between others
abbrev pub link_worth : ℕ → ℕ → ℕ
link_worth from to = if to == 0 then 2 else (if from == 0 then 1 else 3)

abbrev pub token_worth : List Packet → ℕ → ℕ → LinkToken → ℕ
token_worth fs from to (Data id) = link_worth from to + packet_worth (flight id fs)
token_worth fs from to (Save a) = 2
token_worth fs from to (Saved a waiting ended) = 1
token_worth fs from to (Restore a) = 3
token_worth fs from to (Yield a) = 1
token_worth fs from to (Closed g) = 0

-- the link at this place among all
abbrev pub link_sum : List Packet → ℕ → List LinkToken → ℕ
link_sum fs k ts = total (token_worth fs (k / 16) (k % 16)) ts

-- a sum with places, from n on
abbrev pub sum_from : {X : Type 0} → (ℕ → X → ℕ) → ℕ → List X → ℕ
sum_from f n [] = 0
sum_from f n (x ∷ xs) = f n x + sum_from f (n + 1) xs

abbrev pub links_sum : List Packet → List (List LinkToken) → ℕ
links_sum fs links = sum_from (link_sum fs) 0 links

abbrev pub hold_sum : List Packet → List FlightId → ℕ
hold_sum fs ids = total (λ id. 1 + packet_worth (flight id fs)) ids

-- ---- activities

-- it has a program that hasn't ended
abbrev pub is_running : PlacedActivity → Bool
is_running x = x.has_program && not x.ended

-- its stay has made a move or sent a Yield
abbrev pub has_moved : PlacedActivity → Bool
has_moved x = nat_lt 0 x.moves || x.yield_sent

-- it may yet be saved as ready: it doesn't wait, and it is leaving, or moved in this stay
abbrev pub may_join : State → Bool → PlacedActivity → Bool
may_join s current x =
    is_running x
    && (not (is_waiting s (Some x)) && (is_leaving x.place || (current && has_moved x)))

abbrev pub may_yield : Bool → PlacedActivity → Bool
may_yield current x = current && (x.has_program && not x.yield_sent)

abbrev pub actor_worth : State → Bool → PlacedActivity → ℕ
actor_worth s current x =
    one (is_running x)
    + one (is_some x.pending)
    + (if is_coming x.place then 3 else 0)
    + (if may_yield current x then 2 else 0)
    + (if may_join s current x then 6 else 0)
    + hold_sum s.flights x.hold

-- it is its tile's current activity
abbrev pub is_there : List (Option ℕ) → PlacedActivity → Bool
is_there current x = is_number x.act (slice_index_or current x.home None)

abbrev pub actor_in : State → List (Option ℕ) → PlacedActivity → ℕ
actor_in s current x = actor_worth s (is_there current x) x

abbrev pub actors_sum : State → List (Option ℕ) → List PlacedActivity → ℕ
actors_sum s current xs = total (actor_in s current) xs

-- ---- grants, ready lists

abbrev pub grant_worth : Grant → ℕ
grant_worth x = if x.close_sent then (if is_done x.standing then 0 else 1) else 9

abbrev pub ready_worth : List ℕ → ℕ
ready_worth as' = 6 * length as'

-- ---- programs: for each activity with one, the calls that it may still make

abbrev pub Units : Type 0
Units = List (ℕ × ℕ)

abbrev pub units_sum : Units → ℕ
units_sum us = 25 * total (λ u. u.1) us

-- ---- all

abbrev pub potential : State → Placement → Units → ℕ → ℕ
potential s p us orders =
    units_sum us
    + 17 * orders
    + total grant_worth s.grants
    + total ready_worth p.ready
    + links_sum s.flights p.links
    + actors_sum s p.current p.actors
