-- What came of a packet at a context, as the code tells it.
use Rattle.std.specs.Prelude.{ℕ, Bool, true, false, Option, Some, None}
use Rattle.m3_base.specs.declared.ids.FlightId.{FlightId}
use Rattle.m3_base.specs.declared.packet.Packet.{Packet}
use Rattle.m3_base.specs.declared.event.Said.{Said}
use Rattle.m3_base.specs.Ideal.Context.{Context}
use Rattle.m3_base.specs.Ideal.Arrival.{Arrival}
use Rattle.m3_core.specs.declared.arrived.Arrived.{Arrived}
use Rattle.m3_kernel.specs.declared.came.Came.{Came}

-- the grant of a credit
abbrev pub credit_of : Packet → Option ℕ
credit_of (Packet.Credit id to g) = Some g
credit_of packet = None

-- whom the answer to a packet goes to: the sender of a message
abbrev pub answers_to : Packet → Option ℕ
answers_to (Packet.Message to ep g m) = Some m.header.sender
answers_to p = None

-- a credit is told with its grant
abbrev pub NamesCredit : Option ℕ → Arrived → Type 0
NamesCredit None (Arrived.Credited taken) = ⊥
NamesCredit credit arrived = Unit {0}

abbrev pub said_of_grant : FlightId → ℕ → Bool → Said
said_of_grant id g true = Said.Credited id g
said_of_grant id g false = Said.Discarded id g

abbrev pub said_credit : FlightId → Option ℕ → Bool → Said
said_credit id None taken = Said.Nothing
said_credit id (Some g) taken = said_of_grant id g taken

abbrev pub said_came : FlightId → Option ℕ → Arrived → Said
said_came id credit (Arrived.Credited taken) = said_credit id credit taken
said_came id credit (Arrived.Landed answer) = Said.Landed id
said_came id credit (Arrived.Refused why answer) = Said.LandRefused id why
said_came id credit (Arrived.Answered x answer closed) = Said.Answered x answer closed
said_came id credit (Arrived.Installed g) = Said.Installed id g
said_came id credit (Arrived.Closing g) = Said.Closing id g
said_came id credit (Arrived.Closed g) = Said.Closed id g

-- no packet both is answered and frees an endpoint
abbrev pub AtMostOne : Option Packet → Option ℕ → Type 0
AtMostOne (Some p) (Some g) = ⊥
AtMostOne answer freed = Unit {0}

-- with the context after it
abbrev pub arrival_of : Came → Context → Arrival
arrival_of x c = record { said = x.said; context = c; answer = x.answer; freed = x.freed }
