-- The flight of an issued command, and what its issuer is told.
use Rattle.std.specs.Prelude.{◌≡◌, ◌<◌, ◌+◌, ℕ, List, slice_index_or, slice_set, Option, Some, None}
use Rattle.m3_base.specs.declared.command.Reply.{Reply}
use Rattle.m3_base.specs.declared.packet.Packet.{Packet}
use Rattle.m3_base.specs.Ideal.Flights.{name_of}
use Rattle.m3_base.specs.Ideal.Issue.{IssueOutcome, Gives, Flies}
use Rattle.m3_ideal.specs.declared.issued.Issued.{Issued}
use Rattle.m3_ideal.specs.Lanes.{FlightTable}

abbrev pub outcome_of : Issued → IssueOutcome
outcome_of (Issued.Refused why) = Gives (Reply.Refused why)
outcome_of Issued.Nothing = Gives Reply.Nothing
outcome_of (Issued.Fetched token m) = Gives (Reply.Fetched token m)
outcome_of (Issued.Acknowledged None) = Gives (Reply.Acknowledged None)
outcome_of (Issued.Acknowledged (Some f)) = Gives (Reply.Acknowledged (Some f.0))
outcome_of (Issued.Flies id p) = Flies id

abbrev pub packet_of_issue : Issued → Option Packet
packet_of_issue (Issued.Acknowledged (Some f)) = Some f.1
packet_of_issue (Issued.Flies id p) = Some p
packet_of_issue issued = None

-- there is room for the flight, and its number is the next of its issuer
pub record IsNextFlight (p : Packet) (f : FlightTable) : Type 0 where
  pub range : (name_of p).issuer < 65
  pub room : 0 < slice_index_or f.rooms (name_of p).issuer 0
  pub next : (name_of p).number ≡ slice_index_or f.nexts (name_of p).issuer 0

abbrev pub MayLaunch : Option Packet → FlightTable → Type 0
MayLaunch None f = Unit {0}
MayLaunch (Some p) f = IsNextFlight p f

-- the number of the flight is its issuer's no more
abbrev pub nexts_after : Option Packet → List ℕ → List ℕ
nexts_after None nexts = nexts
nexts_after (Some p) nexts = slice_set nexts (name_of p).issuer ((name_of p).number + 1)
