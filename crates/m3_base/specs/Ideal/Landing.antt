-- What a packet does where it lands.
use Rattle.std.specs.Prelude.{ℕ, ◌+◌, Bool, true, false, not, ◌&&◌, ◌||◌, ◌==◌, nat_lt, List, [], ◌∷◌, ◌++◌, length, take, drop, Option, Some, None, if◌then◌else◌}
use Rattle.std.specs.List.{list_any}
use Rattle.m3_base.specs.declared.ids.FlightId.{FlightId}
use Rattle.m3_base.specs.declared.message.Message.{Message}
use Rattle.m3_base.specs.declared.command.Refusal.{Refusal}
use Rattle.m3_base.specs.declared.command.Answer.{Answer}
use Rattle.m3_base.specs.declared.packet.Packet.{Packet}
use Rattle.m3_base.specs.Ideal.Context.{Kind, Sending, Replying, Flying, SendRecord, Endpoint, Free, Sends, Receives, Reaches, Context, endpoint, with_endpoint}
use Rattle.m3_base.specs.Ideal.ReceiveRecord.{is_full, with_unread, without_fetched, with_mark_at}
use Rattle.m3_base.specs.Ideal.Issue.{first_of}
use Rattle.m3_base.specs.Ideal.State.{is_number}

-- ---- credits

abbrev pub one_more : SendRecord → SendRecord
one_more r = record r { held = r.held + 1 }

abbrev pub sends_by : ℕ → Endpoint → Bool
sends_by g (Sends r) = r.grant == g
sends_by g _ = false

abbrev pub more_at : Endpoint → Endpoint
more_at (Sends r) = Sends (one_more r)
more_at Free = Free
more_at (Receives r) = Receives r
more_at (Reaches r) = Reaches r

-- one credit more at the first endpoint with the send grant g, where there is one
abbrev pub endpoints_with_credit : ℕ → List Endpoint → List Endpoint
endpoints_with_credit g [] = []
endpoints_with_credit g (e ∷ es) = if sends_by g e then more_at e ∷ es else e ∷ endpoints_with_credit g es

abbrev pub with_credit : ℕ → Context → Context
with_credit g c = record c { endpoints = endpoints_with_credit g c.endpoints }

abbrev pub has_send : ℕ → Context → Bool
has_send g c = list_any (sends_by g) c.endpoints

-- ---- messages and replies

abbrev pub land_refusal : ℕ → Message → Endpoint → Option Refusal
land_refusal g m (Receives r) =
    first_of (
    (r.closing || not (r.grant == g), Refusal.Revoked)
    ∷ (nat_lt r.size (length m.payload), Refusal.TooLarge)
    ∷ (is_full r, Refusal.Full)
    ∷ []
    )
land_refusal g m _ = Some Refusal.Revoked

abbrev pub with_message : Message → Endpoint → Endpoint
with_message m (Receives r) = Receives (with_unread r m)
with_message m Free = Free
with_message m (Sends r) = Sends r
with_message m (Reaches r) = Reaches r

-- the message joins the unread ones, and a reply gives its credit
abbrev pub after_message : ℕ → Message → Context → Context
after_message ep m c =
    let d = with_endpoint c ep (with_message m (endpoint c ep)) in
    if m.header.flags == 0 then d else with_credit m.header.send d

abbrev pub message_id : Message → FlightId
message_id m = record { issuer = m.header.sender; number = m.header.number }

abbrev pub landed_answer : Message → Answer
landed_answer m = if m.header.flags == 0 then Answer.Sent else Answer.Replied

pub record Landed : Type 0 where
  pub refused : Option Refusal
  pub answer : Packet
  pub context : Context

abbrev pub land_by : ℕ → Message → Context → Option Refusal → Landed
land_by ep m c (Some x) =
    record { refused = Some x; answer = Packet.Answer (message_id m) (Answer.Refused x); context = c }
land_by ep m c None =
    record { refused = None; answer = Packet.Answer (message_id m) (landed_answer m); context = after_message ep m c }

abbrev pub land : ℕ → ℕ → Message → Context → Landed
land ep g m c = land_by ep m c (land_refusal g m (endpoint c ep))

-- ---- reads and writes, which need no context

abbrev pub bytes_at : ℕ → ℕ → List ℕ → List ℕ
bytes_at place len memory = take len (drop place memory)

abbrev pub written_at : ℕ → List ℕ → List ℕ → List ℕ
written_at place bytes memory = take place memory ++ (bytes ++ drop (place + length bytes) memory)

-- ---- Close

abbrev pub grant_of : Endpoint → Option ℕ
grant_of Free = None
grant_of (Sends r) = Some r.grant
grant_of (Receives r) = Some r.grant
grant_of (Reaches r) = Some r.grant

-- the endpoint has a record of this grant
abbrev pub is_record_of : ℕ → Endpoint → Bool
is_record_of g e = is_number g (grant_of e)

abbrev pub is_closing : Endpoint → Bool
is_closing Free = false
is_closing (Sends r) = r.closing
is_closing (Receives r) = r.closing
is_closing (Reaches r) = r.closing

abbrev pub has_live : ℕ → Endpoint → Bool
has_live g e = is_number g (grant_of e) && not (is_closing e)

abbrev pub has_closing : ℕ → Endpoint → Bool
has_closing g e = is_number g (grant_of e) && is_closing e

abbrev pub closed_at : Endpoint → Endpoint
closed_at Free = Free
closed_at (Sends r) = Sends (record r { closing = true })
closed_at (Receives r) = Receives (record r { closing = true })
closed_at (Reaches r) = Reaches (record r { closing = true })

-- a command of this endpoint flies
abbrev pub is_command_at : ℕ → Flying → Bool
is_command_at ep f = f.ep == ep

abbrev pub flies_at : ℕ → Context → Bool
flies_at ep c = list_any (is_command_at ep) c.flying

-- ---- answers

abbrev pub flying_at : ℕ → List Flying → Option Flying
flying_at n [] = None
flying_at n (f ∷ fs) = if f.number == n then Some f else flying_at n fs

abbrev pub without_flying : ℕ → List Flying → List Flying
without_flying n [] = []
without_flying n (f ∷ fs) = if f.number == n then fs else f ∷ without_flying n fs

-- what the answer to a command of this kind does to the command's endpoint
abbrev pub endpoint_after_answer : Kind → ℕ → Answer → Endpoint → Endpoint
endpoint_after_answer Sending t (Answer.Refused x) (Sends r) = Sends (one_more r)
endpoint_after_answer Replying t Answer.Replied (Receives r) = Receives (without_fetched r t)
endpoint_after_answer Replying t (Answer.Refused x) (Receives r) = Receives (with_mark_at false r t)
endpoint_after_answer kind t answer e = e

abbrev pub context_after_answer : Flying → Answer → Context → Context
context_after_answer f answer c =
    let d = record c { flying = without_flying f.number c.flying } in
    with_endpoint d f.ep (endpoint_after_answer f.kind f.token answer (endpoint c f.ep))

-- the grant whose endpoint becomes free with this answer
abbrev pub freed_grant : ℕ → Context → Option ℕ
freed_grant ep c = if is_closing (endpoint c ep) && not (flies_at ep c) then grant_of (endpoint c ep) else None
