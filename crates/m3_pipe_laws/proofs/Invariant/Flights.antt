-- An activity's only command that flies, and the queue of a receive record.
use Rattle.std.specs.Prelude.{◌≡◌, ℕ, List, [], ◌∷◌, Option, Some, None}
use Rattle.m3_base.specs.declared.message.Message.{Message}
use Rattle.m3_base.specs.declared.packet.Packet.{Packet}
use Rattle.m3_base.specs.declared.ids.FlightId.{FlightId}
use Rattle.m3_base.specs.Ideal.Flights.{flight, flight_name as id}
use Rattle.m3_base.specs.Ideal.Context.{Kind, Context, Flying, Fetched, Endpoint, Receives}
use Rattle.m3_base.specs.Ideal.State.{State, context_of}

-- ---- an activity's command that flies

abbrev pub lone_flying : ℕ → Kind → ℕ → ℕ → List Flying
lone_flying n kind ep token = record { number = n; kind = kind; ep = ep; token = token } ∷ []

abbrev pub flying_in : Option Context → List Flying
flying_in None = []
flying_in (Some c) = c.flying

abbrev pub flying_of : ℕ → State → List Flying
flying_of a s = flying_in (context_of a s.contexts)

-- its only command that flies is of this kind, and its packet or answer is as P says
pub record LoneFlight (a : ℕ) (s : State) (kind : Kind) (ep token : ℕ) (P : Packet → Type 0)
    : Type 0 where
  pub number : ℕ
  pub flying : flying_of a s ≡ lone_flying number kind ep token
  pub packet : Packet
  pub found : flight (id a number) s.flights ≡ Some packet
  pub phase : P packet

-- ---- the queue of a receive record

pub record Queue : Type 0 where
  pub unread : List Message
  pub fetched : List Fetched

abbrev pub queue_of : Endpoint → Option Queue
queue_of (Receives q) = Some (record { unread = q.unread; fetched = q.fetched })
queue_of e = None
