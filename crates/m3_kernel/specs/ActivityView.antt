-- The code's seats.
use Rattle.std.specs.Prelude.{◌≡◌, ℕ, ◌<◌, Bool, true, false, not, List, [], ◌∷◌, map, Option, Some, None, if◌then◌else◌}
use Rattle.std.specs.VecDeque.{deque_len, deque_capacity}
use Rattle.m3_base.specs.declared.packet.Packet.{Packet}
use Rattle.m3_base.specs.Ideal.Context.{Context}
use Rattle.m3_base.specs.Ideal.Acceptance.{fits}
use Rattle.m3_base.specs.Ideal.Arrival.{arrive}
use Rattle.m3_core.specs.declared.parcel.Heard.{Heard}
use Rattle.m3_model.specs.LocalStep.{heard_in_answer}
use Rattle.m3_model.specs.Parcel.{Parcel, Restore}
use Rattle.m3_model.specs.Kernel.State.{SavedActivity, EntryResidency, Is_placed, Is_leaving, Is_resting, Is_coming, ActivityEntry}
use Rattle.m3_kernel.specs.ParcelView.{heard_in}
use Rattle.m3_model.specs.Kernel.Step.{after_packet}
use Rattle.m3_kernel.specs.ArrivalView.{arrival_of}
use Rattle.m3_kernel.specs.declared.came.Came.{Came}
use Rattle.m3_kernel.specs.declared.seat.Place.{Place}
use Rattle.m3_kernel.specs.declared.seat.Seating.{Seating as CodeSeating}
use Rattle.m3_kernel.specs.declared.seat.Seat.{Seat as CodeSeat}

abbrev pub seating_of : CodeSeating → EntryResidency
seating_of CodeSeating.Placed = Is_placed
seating_of CodeSeating.Leaving = Is_leaving
seating_of (CodeSeating.Resting y) = Is_resting y
seating_of (CodeSeating.Coming y) = Is_coming y

abbrev pub seat_value : CodeSeat → ActivityEntry
seat_value x = record { act = x.act; seating = seating_of x.seating; hold = x.hold.items }

abbrev pub seats_of : List CodeSeat → List ActivityEntry
seats_of = map seat_value

-- there is room for one more in its hold list
abbrev pub HasRoom : CodeSeat → Type 0
HasRoom x = deque_len x.hold < deque_capacity x.hold

abbrev pub place_of : EntryResidency → Place
place_of Is_placed = Place.Placed
place_of Is_leaving = Place.Leaving
place_of (Is_resting y) = Place.Resting
place_of (Is_coming y) = Place.Coming

-- what the kernel has of one that is away
abbrev pub away_in : EntryResidency → Option SavedActivity
away_in Is_placed = None
away_in Is_leaving = None
away_in (Is_resting y) = Some y
away_in (Is_coming y) = Some y

abbrev pub context_in : Option SavedActivity → Option Context
context_in None = None
context_in (Some y) = Some y.context

-- without a context it is Placed, with one it rests
abbrev pub opened_as : Option Context → EntryResidency
opened_as None = Is_placed
opened_as (Some c) = Is_resting (record { context = c; heard = []; ended = false })

abbrev pub new_seat : ℕ → Option Context → ActivityEntry
new_seat a c = record { act = a; seating = opened_as c; hold = [] }

-- it rests, and its program hasn't ended
abbrev pub is_idle_rest : EntryResidency → Bool
is_idle_rest (Is_resting y) = not y.ended
is_idle_rest w = false

-- who rested comes
abbrev pub coming_from : EntryResidency → EntryResidency
coming_from (Is_resting y) = Is_coming y
coming_from w = w

-- the front of a hold list
abbrev pub first_held : List Packet → Option Packet
first_held [] = None
first_held (p ∷ ps) = Some p

-- the front, where the seat's activity is away and the packet fits its context
abbrev pub deliverable_at : Option SavedActivity → Option Packet → Option Packet
deliverable_at None p = None
deliverable_at (Some y) None = None
deliverable_at (Some y) (Some p) = if fits y.context p then Some p else None

abbrev pub deliverable_front : ActivityEntry → Option Packet
deliverable_front x = deliverable_at (away_in x.seating) (first_held x.hold)

-- as it was, with this instead of what the kernel had
abbrev pub with_saved : EntryResidency → SavedActivity → EntryResidency
with_saved Is_placed z = Is_placed
with_saved Is_leaving z = Is_leaving
with_saved (Is_resting y) z = Is_resting z
with_saved (Is_coming y) z = Is_coming z

-- the front has arrived at the context
pub record Delivered (x z : ActivityEntry) (came : Came) : Type 0 where
  pub away : SavedActivity
  pub packet : Packet
  pub left : List Packet
  pub context : Context
  pub was : away_in x.seating ≡ Some away
  pub held : x.hold ≡ packet ∷ left
  pub fit : fits away.context packet ≡ true
  pub arrives : arrive away.context packet ≡ Some (arrival_of came context)
  pub seat : z ≡ record x { seating = with_saved x.seating (after_packet packet context away); hold = left }

-- what is heard of the front
pub record RemembersAnswer (x : ActivityEntry) (heard : Option Heard) : Type 0 where
  pub packet : Packet
  pub front : deliverable_front x ≡ Some packet
  pub said : heard_in heard ≡ heard_in_answer packet

abbrev pub IsComing : EntryResidency → Type 0
IsComing (Is_coming y) = Unit {0}
IsComing w = ⊥

-- the parcel restores who comes
abbrev pub Restores : EntryResidency → Parcel → Type 0
Restores (Is_coming y) q = q ≡ Restore y.context.act y.context y.heard
Restores w q = ⊥
