-- The flights of an ideal state: packets under their names.
use Rattle.std.specs.Prelude.{ℕ, Bool, ◌&&◌, ◌||◌, ◌==◌, nat_lt, List, [], ◌∷◌, Option}
use Rattle.m3_base.specs.declared.ids.FlightId.{FlightId}
use Rattle.m3_base.specs.declared.packet.Packet.{Packet}
use Rattle.m3_base.specs.Lists.Keyed as keyed

-- the issuer that stands for the kernel
abbrev pub kernel : ℕ
kernel = 64

abbrev pub flight_name : ℕ → ℕ → FlightId
flight_name a n = record { issuer = a; number = n }

abbrev pub same_name : FlightId → FlightId → Bool
same_name a b = (a.issuer == b.issuer) && (a.number == b.number)

abbrev pub name_before : FlightId → FlightId → Bool
name_before a b = nat_lt a.issuer b.issuer || ((a.issuer == b.issuer) && nat_lt a.number b.number)

abbrev pub name_of : Packet → FlightId
name_of (Packet.Message to ep grant message) = record { issuer = message.header.sender; number = message.header.number }
name_of (Packet.Credit id to grant) = id
name_of (Packet.Read id grant place buffer) = id
name_of (Packet.Write id grant place payload) = id
name_of (Packet.Answer id answer) = id
name_of (Packet.Install id to ep fresh) = id
name_of (Packet.Close id to ep grant) = id

-- the packet of this name
abbrev pub flight : FlightId → List Packet → Option Packet
flight = keyed.find name_of same_name

-- a new flight
abbrev pub new_flight : Packet → List Packet → List Packet
new_flight = keyed.with_inserted name_of name_before

-- the packet in place of the flight of its name
abbrev pub change_flight : Packet → List Packet → List Packet
change_flight = keyed.with_replaced name_of same_name

-- the flights but that one
abbrev pub end_flight : FlightId → List Packet → List Packet
end_flight = keyed.without name_of same_name

-- packets in the order of their names
abbrev pub sorted_by_name : List Packet → List Packet
sorted_by_name [] = []
sorted_by_name (p ∷ ps) = new_flight p (sorted_by_name ps)
