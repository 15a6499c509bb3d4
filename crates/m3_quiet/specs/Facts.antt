-- What is asked of a state and its places, so that each event lowers the sum.
use Rattle.std.specs.Prelude.{◌≡◌, ℕ, ◌<◌, ◌≤◌, ◌||◌, Bool, true, false, List, [], ◌∷◌, length, Some, None, is_some, slice_index_or}
use Rattle.m3_base.specs.declared.ids.FlightId.{FlightId}
use Rattle.m3_base.specs.declared.packet.Packet.{Packet}
use Rattle.m3_base.specs.Lists.Keyed as keyed
use Rattle.m3_base.specs.Ideal.Flights.{flight}
use Rattle.m3_base.specs.Ideal.Context.{Context, endpoint_at}
use Rattle.m3_base.specs.Ideal.Issue.{next_id}
use Rattle.m3_base.specs.Ideal.Landing.{is_record_of}
use Rattle.m3_base.specs.Ideal.GrantRules.{kernel_id}
use Rattle.m3_base.specs.Ideal.State.{State, Grant, context_of, grant_in, holder, is_done}
use Rattle.m3_base.specs.Placement.State.{Placement, PlacedActivity, LinkToken, Data, Saved, Closed, actor, actor_act, link, current_of, is_leaving, is_resting, is_coming, ready_at}
use Rattle.m3_base.specs.Placement.Routing.{target_of}
use Rattle.m3_base.specs.Placement.Take.{is_here, is_waiting}
use Rattle.m3_base.specs.Placement.Order.{placed_at}
use Rattle.m3_base.specs.Ideal.State.{same_act}
use Rattle.m3_base.specs.Ideal.FlightNames.{Distinct}
use Rattle.m3_quiet.specs.Potential.{is_there, has_moved}

-- no activity has two actors
abbrev pub ActorsApart : List PlacedActivity → Type 0
ActorsApart [] = Unit {0}
ActorsApart (x ∷ xs) = (keyed.find actor_act same_act x.act xs ≡ None) × ActorsApart xs

-- each data token's name is that of a flight
abbrev pub IsKnown : List Packet → LinkToken → Type 0
IsKnown fs (Data id) = is_some (flight id fs) ≡ true
IsKnown fs t = Unit {0}

abbrev pub TokensKnown : List Packet → List LinkToken → Type 0
TokensKnown fs [] = Unit {0}
TokensKnown fs (t ∷ ts) = IsKnown fs t × TokensKnown fs ts

abbrev pub LinksKnown : List Packet → List (List LinkToken) → Type 0
LinksKnown fs [] = Unit {0}
LinksKnown fs (ts ∷ ls) = TokensKnown fs ts × LinksKnown fs ls

abbrev pub NamesKnown : List Packet → List FlightId → Type 0
NamesKnown fs [] = Unit {0}
NamesKnown fs (k ∷ ks) = (is_some (flight k fs) ≡ true) × NamesKnown fs ks

abbrev pub HoldsKnown : List Packet → List PlacedActivity → Type 0
HoldsKnown fs [] = Unit {0}
HoldsKnown fs (x ∷ xs) = NamesKnown fs x.hold × HoldsKnown fs xs

-- ---- records

-- the grant of a record isn't done
abbrev pub RecordsStand : State → Type 0
RecordsStand s =
    (a ep g : ℕ) (x : Grant)
    → is_record_of g (endpoint_at (context_of a s.contexts) ep) ≡ true
    → grant_in s.grants g ≡ Some x
    → is_done x.standing ≡ false

-- and it is held by the record's activity
abbrev pub RecordsHeld : State → Type 0
RecordsHeld s =
    (a ep g : ℕ) (x : Grant)
    → is_record_of g (endpoint_at (context_of a s.contexts) ep) ≡ true
    → grant_in s.grants g ≡ Some x
    → holder x.line ≡ a

-- all links are there, each activity has a tile from 2 on, and no activity stands twice
pub record Fine (p : Placement) : Type 0 where
  pub links : length p.links ≡ 256
  pub homes : (a : ℕ) (x : PlacedActivity) → actor a p ≡ Some x → (2 ≤ x.home) × (x.home < 16)
  pub apart : ActorsApart p.actors

-- ---- what the events need, one after the other

-- a Saved at the front of a link to the kernel: its activity leaves and is current nowhere, and its
-- two flags are those of now
pub record SavedOk (s : State) (p : Placement) (a : ℕ) (waiting ended : Bool) : Type 0 where
  pub leaving : (x : PlacedActivity) → actor a p ≡ Some x → is_leaving x.place ≡ true
  pub waits : (x : PlacedActivity) → actor a p ≡ Some x → waiting ≡ is_waiting s (Some x)
  pub over : (x : PlacedActivity) → actor a p ≡ Some x → ended ≡ x.ended
  pub away : (x : PlacedActivity) → actor a p ≡ Some x → is_there p.current x ≡ false

-- an activity at the front of the kernel's count of a tile's ready ones rests, and has its home
-- there
abbrev pub ReadyOk : Placement → Type 0
ReadyOk p =
    (t a : ℕ) (as' : List ℕ) (x : PlacedActivity)
    → ready_at t p ≡ a ∷ as'
    → actor a p ≡ Some x
    → (x.home ≡ t) × (is_resting x.place ≡ true)

-- where a Yield of this stay was taken, the tile's Placed activity is current, and made a move or
-- sent a Yield
abbrev pub YieldedOk : Placement → Type 0
YieldedOk p =
    (t : ℕ) (x : PlacedActivity)
    → slice_index_or p.yielded t false ≡ true
    → placed_at t p.actors ≡ Some x
    → (is_there p.current x ≡ true) × (has_moved x ≡ true)

pub record Facts (s : State) (p : Placement) : Type 0 where
  -- of the setup: all links, each activity once and at a tile from 2 on, a quantum
  pub fine : Fine p
  pub quantum : 1 ≤ p.quantum
  -- names: flights differ, each token's and each held name is that of a flight, and the next names
  -- are new
  pub flights : Distinct s.flights
  pub links : LinksKnown s.flights p.links
  pub holds : HoldsKnown s.flights p.actors
  pub fresh :
      (a : ℕ) (c : Context)
      → context_of a s.contexts ≡ Some c
      → flight (next_id c) s.flights ≡ None
  pub fresh_kernel : flight (kernel_id s) s.flights ≡ None
  -- grants: a record's grant isn't done, and a Closed's Close was sent
  pub records : RecordsStand s
  pub closed :
      (from g : ℕ) (ts : List LinkToken) (x : Grant)
      → link from 0 p ≡ Closed g ∷ ts
      → grant_in s.grants g ≡ Some x
      → x.close_sent ≡ true
  -- data from the kernel meets its activity current
  pub walks :
      (t : ℕ) (id : FlightId) (ts : List LinkToken)
      → 2 ≤ t
      → t < 16
      → link 0 t p ≡ Data id ∷ ts
      → is_here (target_of (flight id s.flights)) (current_of t p) ≡ true
  -- where activities are
  pub saved :
      (from a : ℕ) (waiting ended : Bool) (ts : List LinkToken)
      → link from 0 p ≡ Saved a waiting ended ∷ ts
      → SavedOk s p a waiting ended
  pub away :
      (a : ℕ) (x : PlacedActivity)
      → actor a p ≡ Some x
      → (is_resting x.place || is_coming x.place) ≡ true
      → is_there p.current x ≡ false
  pub held :
      (a : ℕ) (x : PlacedActivity) (id : FlightId) (ids : List FlightId)
      → actor a p ≡ Some x
      → x.hold ≡ id ∷ ids
      → target_of (flight id s.flights) ≡ Some a
  -- a tile's current activity has its home there
  pub current : (t a : ℕ) (x : PlacedActivity) → current_of t p ≡ Some a → actor a p ≡ Some x → x.home ≡ t
  -- scheduling
  pub ready : ReadyOk p
  pub yielded : YieldedOk p
