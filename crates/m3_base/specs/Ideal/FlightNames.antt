-- Flights have different names.
use Rattle.std.specs.Prelude.{◌≡◌, List, [], ◌∷◌, None}
use Rattle.m3_base.specs.declared.ids.FlightId.{FlightId}
use Rattle.m3_base.specs.declared.packet.Packet.{Packet}
use Rattle.m3_base.specs.Ideal.Flights.{name_of, flight}

-- no flight has this name
abbrev pub Apart : FlightId → List Packet → Type 0
Apart id fs = flight id fs ≡ None

abbrev pub Distinct : List Packet → Type 0
Distinct [] = Unit {0}
Distinct (p ∷ fs) = Apart (name_of p) fs × Distinct fs
