-- Where things are: the current activity of each tile, each activity's residency and hold list, and the links.
use Rattle.std.specs.Prelude.{ℕ, ◌+◌, ◌*◌, Bool, true, false, not, ◌==◌, List, [], ◌∷◌, ◌++◌, filter, slice_index_or, slice_set, Option, Some, None, if◌then◌else◌}
use Rattle.std.specs.List.{list_any}
use Rattle.m3_base.specs.declared.ids.FlightId.{FlightId}
use Rattle.m3_base.specs.Ideal.State.{same_act, is_number}
use Rattle.m3_base.specs.Lists.Keyed as keyed

pub data Residency : Type 0 where
  Placed Leaving Resting Coming : Residency

pub data LinkToken : Type 0 where
  Data : FlightId → LinkToken
  Save : ℕ → LinkToken
  Saved : ℕ → Bool → Bool → LinkToken
  Restore : ℕ → LinkToken
  Yield : ℕ → LinkToken
  Closed : ℕ → LinkToken

-- an activity, as the kernel counts it and as its program stands
pub record PlacedActivity : Type 0 where
  pub act : ℕ
  pub home : ℕ
  pub place : Residency
  pub hold : List FlightId
  pub has_program : Bool
  -- the Await that has no unread message yet
  pub pending : Option ℕ
  pub ended : Bool
  -- of this stay on its tile: the Do moves, and whether its Yield was sent
  pub moves : ℕ
  pub yield_sent : Bool

pub record Placement : Type 0 where
  -- for each tile, its current activity
  pub current : List (Option ℕ)
  pub actors : List PlacedActivity
  -- for each pair of tiles, at 16 * from + to
  pub links : List (List LinkToken)
  -- for each tile, the activities that are ready, and whether a Yield of this stay was taken
  pub ready : List (List ℕ)
  pub yielded : List Bool
  pub quantum : ℕ

-- ---- reading

abbrev pub actor_act : PlacedActivity → ℕ
actor_act a = a.act

abbrev pub actor : ℕ → Placement → Option PlacedActivity
actor a p = keyed.find actor_act same_act a p.actors

abbrev pub home_in : Option PlacedActivity → ℕ
home_in None = 0
home_in (Some x) = x.home

abbrev pub home : ℕ → Placement → ℕ
home a p = home_in (actor a p)

abbrev pub link : ℕ → ℕ → Placement → List LinkToken
link from to p = slice_index_or p.links (16 * from + to) []

abbrev pub current_of : ℕ → Placement → Option ℕ
current_of t p = slice_index_or p.current t None

abbrev pub is_current : ℕ → Placement → Bool
is_current a p = is_number a (current_of (home a p) p)

abbrev pub is_placed : Residency → Bool
is_placed Placed = true
is_placed _ = false

abbrev pub is_leaving : Residency → Bool
is_leaving Leaving = true
is_leaving _ = false

abbrev pub is_resting : Residency → Bool
is_resting Resting = true
is_resting _ = false

abbrev pub is_coming : Residency → Bool
is_coming Coming = true
is_coming _ = false

-- ---- changing

abbrev pub with_link : ℕ → ℕ → List LinkToken → Placement → Placement
with_link from to ts p = record p { links = slice_set p.links (16 * from + to) ts }

abbrev pub with_token : ℕ → ℕ → LinkToken → Placement → Placement
with_token from to t p = with_link from to (link from to p ++ t ∷ []) p

abbrev pub with_actor : PlacedActivity → Placement → Placement
with_actor x p = record p { actors = keyed.with_replaced actor_act same_act x p.actors }

abbrev pub with_current : ℕ → Option ℕ → Placement → Placement
with_current t a p = record p { current = slice_set p.current t a }

abbrev pub at_place : Residency → PlacedActivity → Placement → Placement
at_place w x p = with_actor (record x { place = w }) p

-- ---- ready lists

abbrev pub ready_at : ℕ → Placement → List ℕ
ready_at t p = slice_index_or p.ready t []

abbrev pub with_ready : ℕ → List ℕ → Placement → Placement
with_ready t xs p = record p { ready = slice_set p.ready t xs }

abbrev pub with_yielded : ℕ → Bool → Placement → Placement
with_yielded t b p = record p { yielded = slice_set p.yielded t b }

-- at the back, unless it is in the list
abbrev pub with_member : ℕ → List ℕ → List ℕ
with_member a xs = if list_any (λ b. b == a) xs then xs else xs ++ a ∷ []

abbrev pub join_ready : Bool → ℕ → ℕ → Placement → Placement
join_ready b t a p = if b then with_ready t (with_member a (ready_at t p)) p else p

abbrev pub leave_ready : ℕ → ℕ → Placement → Placement
leave_ready t a p = with_ready t (filter (λ b. not (b == a)) (ready_at t p)) p
