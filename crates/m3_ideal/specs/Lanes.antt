-- The flights of each issuer in a lane of its own, by their numbers.
use Rattle.std.specs.Prelude.{◌≡◌, ℕ, ◌+◌, ◌-◌, List, [], ◌∷◌, length, map, slice_set, vec_len, vec_capacity, Option, Some, None}
use Rattle.m3_base.specs.declared.packet.Packet.{Packet}
use Rattle.m3_base.specs.Ideal.Flights.{name_of, flight_name}
use Rattle.m3_ideal.specs.Tables.{present_on, AreKeyed}
use Rattle.m3_ideal.specs.declared.lane.Lane.{Lane}

abbrev pub swapped : Option Packet → ℕ → Packet → List (Option Packet) → List (Option Packet)
swapped None n p l = l
swapped (Some q) n p l = slice_set l n (Some p)

-- the list of flights, the next number of each issuer, and for how many more each lane has room
pub record FlightTable : Type 0 where
  pub list : List Packet
  pub nexts : List ℕ
  pub rooms : List ℕ

abbrev pub flights_in : List (List (Option Packet)) → List Packet
flights_in [] = []
flights_in (l ∷ ls) = present_on l (flights_in ls)

-- the lane of issuer a, and those after it: at each index a flight of that number
abbrev pub AreLanes : ℕ → List (List (Option Packet)) → Type 0
AreLanes a [] = Unit {0}
AreLanes a (l ∷ ls) = AreKeyed name_of (flight_name a) 0 l × AreLanes (a + 1) ls

abbrev pub lane_of : Lane → List (Option Packet)
lane_of l = l.flights.items

abbrev pub room_in : Lane → ℕ
room_in l = vec_capacity l.flights - vec_len l.flights

abbrev pub lanes_of : List Lane → List (List (Option Packet))
lanes_of = map lane_of

abbrev pub table_of : List Lane → FlightTable
table_of ls = record { list = flights_in (lanes_of ls); nexts = map length (lanes_of ls); rooms = map room_in ls }

pub record HasLanes (ls : List Lane) : Type 0 where
  pub size : length ls ≡ 65
  pub lanes : AreLanes 0 (lanes_of ls)
