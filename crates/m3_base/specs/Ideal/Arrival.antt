-- What a packet does at the context of its activity.
use Rattle.std.specs.Prelude.{ℕ, Bool, true, false, Option, Some, None, if◌then◌else◌}
use Rattle.m3_base.specs.declared.ids.FlightId.{FlightId}
use Rattle.m3_base.specs.declared.command.Refusal.{Refusal}
use Rattle.m3_base.specs.declared.command.Answer.{Answer}
use Rattle.m3_base.specs.declared.packet.Packet.{Packet}
use Rattle.m3_base.specs.declared.event.Said.{Said}
use Rattle.m3_base.specs.Ideal.Flights.{name_of}
use Rattle.m3_base.specs.Ideal.Context.{Flying, Free, Context, endpoint, with_endpoint, new_endpoint}
use Rattle.m3_base.specs.Ideal.Landing.{Landed, land, has_send, with_credit, has_live, closed_at, flies_at, flying_at, context_after_answer, freed_grant}
use Rattle.m3_base.specs.Ideal.Step.{number_of}

-- what is said, the context after it, the answer that arises, and the grant whose endpoint became free
pub record Arrival : Type 0 where
  pub said : Said
  pub context : Context
  pub answer : Option Packet
  pub freed : Option ℕ

abbrev pub arrival : Said → Context → Option Arrival
arrival said c = Some (record { said = said; context = c; answer = None; freed = None })

abbrev pub landed_said : FlightId → Option Refusal → Said
landed_said id None = Said.Landed id
landed_said id (Some why) = Said.LandRefused id why

abbrev pub message_arrives : FlightId → Landed → Option Arrival
message_arrives id l =
    Some (record { said = landed_said id l.refused; context = l.context; answer = Some l.answer; freed = None })

abbrev pub close_arrives : Context → FlightId → ℕ → ℕ → Context → Bool → Option Arrival
close_arrives c id ep g closing true = arrival (Said.Closing id g) closing
close_arrives c id ep g closing false =
    Some (record { said = Said.Closed id g; context = with_endpoint closing ep Free; answer = None; freed = Some g })

-- the endpoint is free where its grant is
abbrev pub freed_context : Context → ℕ → Option ℕ → Context
freed_context c ep None = c
freed_context c ep (Some g) = with_endpoint c ep Free

abbrev pub arrival_of_answer : FlightId → Answer → Context → ℕ → Option ℕ → Option Arrival
arrival_of_answer id answer c ep closed =
    Some (record { said = Said.Answered id answer closed; context = freed_context c ep closed; answer = None; freed = closed })

abbrev pub answer_arrives : Context → FlightId → Answer → Option Flying → Option Arrival
answer_arrives c id answer None = None
answer_arrives c id answer (Some f) =
    let d = context_after_answer f answer c in
    arrival_of_answer id answer d f.ep (freed_grant f.ep d)

-- none where the packet is for the memory, or nothing here waits for it
abbrev pub arrive : Context → Packet → Option Arrival
arrive c (Packet.Message to ep g m) = message_arrives (name_of (Packet.Message to ep g m)) (land ep g m c)
arrive c (Packet.Credit id to g) = arrival (if has_send g c then Said.Credited id g else Said.Discarded id g) (with_credit g c)
arrive c (Packet.Read id g place buffer) = None
arrive c (Packet.Write id g place payload) = None
arrive c (Packet.Answer id answer) = answer_arrives c id answer (flying_at id.number c.flying)
arrive c (Packet.Install id to ep f) = arrival (Said.Installed id (number_of f)) (with_endpoint c ep (new_endpoint f))
arrive c (Packet.Close id to ep g) =
    if has_live g (endpoint c ep)
    then close_arrives c id ep g (with_endpoint c ep (closed_at (endpoint c ep))) (flies_at ep c)
    else None
