-- Which packets a context can meet. Activities, endpoints and grants are within their ranges by their types.
use Rattle.std.specs.Prelude.{ℕ, ◌+◌, Bool, true, false, not, ◌&&◌, ◌||◌, ◌==◌, nat_lt, nat_le, List, [], ◌∷◌, length, Option, Some, None, is_some, if◌then◌else◌}
use Rattle.m3_base.specs.declared.message.Header.{Header}
use Rattle.m3_base.specs.declared.message.Message.{Message}
use Rattle.m3_base.specs.declared.command.Refusal.{Refusal}
use Rattle.m3_base.specs.declared.command.Answer.{Answer}
use Rattle.m3_base.specs.declared.packet.Fresh.{Fresh}
use Rattle.m3_base.specs.declared.packet.Packet.{Packet}
use Rattle.m3_base.specs.Ideal.Flights.{kernel}
use Rattle.m3_base.specs.Ideal.Context.{Kind, Sending, Replying, Reading, Writing, Flying, SendRecord, Endpoint, Free, Sends, Context, endpoint}
use Rattle.m3_base.specs.Ideal.Issue.{no_endpoint}
use Rattle.m3_base.specs.Ideal.Landing.{land_refusal, has_live, flying_at}
use Rattle.m3_base.specs.Ideal.Arrival.{Arrival, arrive}
use Rattle.m3_base.specs.Limits.{is_within}

-- ---- ranges of numbers

abbrev pub is_grant_number : ℕ → Bool
is_grant_number = is_within 1 4096

-- the reply endpoint of a header and its grant: none, or both
abbrev pub is_reply_place : ℕ → ℕ → Bool
is_reply_place ep g = if ep == no_endpoint then g == 0 else nat_lt ep 16 && is_grant_number g

abbrev pub is_header : Header → Bool
is_header h =
    nat_le h.flags 1
    && (h.flags == 0 || (h.reply_ep == no_endpoint))
    && is_reply_place h.reply_ep h.reply
    && (h.lane == 0)
    && nat_le h.length 512
    && is_grant_number h.send
    && nat_lt 0 h.number

-- a header in its ranges, with the length of the payload
abbrev pub is_message : Message → Bool
is_message m = is_header m.header && (m.header.length == length m.payload)

-- a record as the kernel installs it
abbrev pub is_form : Fresh → Bool
is_form (Fresh.Send grant to to_ep to_grant label size limit) = is_within 1 512 size && is_within 1 32 limit
is_form (Fresh.Receive grant slots size) = is_within 1 32 slots && is_within 1 512 size
is_form (Fresh.Memory grant start len perm) = nat_lt 0 len && nat_le (start + len) 1048576

-- ---- credits that come back

-- the first send record of grant g
abbrev pub send_of : ℕ → List Endpoint → Option SendRecord
send_of g [] = None
send_of g (Sends r ∷ es) = if r.grant == g then Some r else send_of g es
send_of g (e ∷ es) = send_of g es

-- one credit more stays within the limit
abbrev pub has_room : SendRecord → Bool
has_room r = nat_lt r.held r.limit

abbrev pub has_room_if : Option SendRecord → Bool
has_room_if None = true
has_room_if (Some r) = has_room r

-- a credit of g finds room, or no endpoint
abbrev pub takes_credit : ℕ → Context → Bool
takes_credit g c = has_room_if (send_of g c.endpoints)

-- the credit of a refused send finds room at the send's endpoint
abbrev pub takes_back : Endpoint → Bool
takes_back (Sends r) = has_room r
takes_back e = true

-- ---- packets

-- a reply that lands brings a credit
abbrev pub fits_message : Context → ℕ → ℕ → Message → Bool
fits_message c ep g m =
    is_message m
    && (m.header.flags == 0 || is_some (land_refusal g m (endpoint c ep)) || takes_credit m.header.send c)

-- a refusal that comes at landing
abbrev pub is_land_refusal : Refusal → Bool
is_land_refusal Refusal.TooLarge = true
is_land_refusal Refusal.Revoked = true
is_land_refusal Refusal.Full = true
is_land_refusal why = false

-- an answer that a command of this kind can get
abbrev pub is_answer_for : Kind → Answer → Bool
is_answer_for Sending Answer.Sent = true
is_answer_for Sending (Answer.Refused why) = is_land_refusal why
is_answer_for Replying Answer.Replied = true
is_answer_for Replying (Answer.Refused why) = is_land_refusal why
is_answer_for Reading (Answer.Bytes bytes) = nat_le (length bytes) 4096
is_answer_for Writing Answer.Written = true
is_answer_for kind answer = false

-- the answer gives a send's credit back
abbrev pub is_returned : Kind → Answer → Bool
is_returned Sending (Answer.Refused why) = true
is_returned kind answer = false

abbrev pub fits_answer : Context → Answer → Option Flying → Bool
fits_answer c answer None = false
fits_answer c answer (Some f) =
    is_answer_for f.kind answer && (not (is_returned f.kind answer) || takes_back (endpoint c f.ep))

abbrev pub is_free : Endpoint → Bool
is_free Free = true
is_free _ = false

-- the packet is for this context's activity, its numbers are in their ranges, and the context waits for it
abbrev pub fits : Context → Packet → Bool
fits c (Packet.Message to ep g m) = (to == c.act) && fits_message c ep g m
fits c (Packet.Credit id to g) = (to == c.act) && nat_lt 0 id.number && nat_lt id.issuer kernel && takes_credit g c
fits c (Packet.Read id g place buffer) = false
fits c (Packet.Write id g place payload) = false
fits c (Packet.Answer id answer) =
    (id.issuer == c.act) && nat_lt 0 id.number && fits_answer c answer (flying_at id.number c.flying)
fits c (Packet.Install id to ep f) =
    (to == c.act) && (id.issuer == kernel) && nat_lt 0 id.number && is_form f && is_free (endpoint c ep)
fits c (Packet.Close id to ep g) =
    (to == c.act) && (id.issuer == kernel) && nat_lt 0 id.number && has_live g (endpoint c ep)

-- what a packet does where it fits
abbrev pub arrive_fit : Context → Packet → Option Arrival
arrive_fit c p = if fits c p then arrive c p else None
