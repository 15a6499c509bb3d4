-- What the definition of a landing says, from what the call answers.
use Rattle.std.specs.Prelude.{ℕ, true, false, Option, Some, None}
use Rattle.m3_base.specs.declared.ids.FlightId.{FlightId}
use Rattle.m3_base.specs.declared.packet.Packet.{Packet}
use Rattle.m3_base.specs.declared.event.Said.{Said}
use Rattle.m3_base.specs.Ideal.Flights.{name_of}
use Rattle.m3_base.specs.Ideal.Context.{Context}
use Rattle.m3_base.specs.Ideal.Arrival.{Arrival}
use Rattle.m3_core.specs.declared.arrived.Arrived.{Arrived}

-- the send grant of a credit
abbrev pub credit_grant : Packet → ℕ
credit_grant (Packet.Credit id to g) = g
credit_grant packet = 0

-- of a packet of this name, and for a credit of this grant
abbrev pub said_by : FlightId → ℕ → Arrived → Said
said_by id g (Arrived.Landed answer) = Said.Landed id
said_by id g (Arrived.Refused why answer) = Said.LandRefused id why
said_by id g (Arrived.Answered x answer closed) = Said.Answered x answer closed
said_by id g (Arrived.Credited true) = Said.Credited id g
said_by id g (Arrived.Credited false) = Said.Discarded id g
said_by id g (Arrived.Installed h) = Said.Installed id h
said_by id g (Arrived.Closing h) = Said.Closing id h
said_by id g (Arrived.Closed h) = Said.Closed id h

-- the answer that arises
abbrev pub answer_by : Arrived → Option Packet
answer_by (Arrived.Landed answer) = Some answer
answer_by (Arrived.Refused why answer) = Some answer
answer_by arrived = None

-- the grant whose endpoint became free
abbrev pub freed_by : Arrived → Option ℕ
freed_by (Arrived.Answered id answer closed) = closed
freed_by (Arrived.Closed g) = Some g
freed_by arrived = None

abbrev pub arrived_as : FlightId → ℕ → Arrived → Context → Arrival
arrived_as id g a c = record { said = said_by id g a; context = c; answer = answer_by a; freed = freed_by a }

-- the packet, what the call answers, and the context after it
abbrev pub arrived_by : Packet → Arrived → Context → Arrival
arrived_by p = arrived_as (name_of p) (credit_grant p)
