-- The readers of headers and packets, field by field.
use Rattle.std.specs.Prelude.{ℕ, ◌-◌, ◌==◌, if◌then◌else◌, List, min, replicate, Option, Some, None, Result, Ok}
use Rattle.m3_base.specs.declared.command.Answer.{Answer}
use Rattle.m3_base.specs.declared.command.Refusal.{Refusal}
use Rattle.m3_base.specs.declared.ids.FlightId.{FlightId}
use Rattle.m3_base.specs.declared.message.Header.{Header}
use Rattle.m3_base.specs.declared.packet.Fresh.{Fresh}
use Rattle.m3_base.specs.declared.packet.Packet.{Packet}
use Rattle.m3_base.specs.declared.packet.Perm.{Perm}
use Rattle.m3_base.specs.Ideal.Flights.{kernel}
use Rattle.m3_base.specs.Limits.{is_within}
use Rattle.m3_wire.specs.declared.codes.PacketTag.{PacketTag}
use Rattle.m3_wire.specs.declared.codes.AnswerTag.{AnswerTag}
use Rattle.m3_wire.specs.declared.codes.RecordTag.{RecordTag}
use Rattle.m3_wire.specs.ByteReader.{Fault, number, coded, byte, some_bytes, pair, mapped}
use Rattle.m3_wire.specs.Headers.{is_reply_ep, least_reply, most_reply}
use Rattle.m3_wire.specs.Packets.{most_memory}

abbrev pub small : ℕ → ℕ → List ℕ → Result (ℕ × List ℕ) Fault
small least most = byte (is_within least most)

abbrev pub act : List ℕ → Result (ℕ × List ℕ) Fault
act = small 0 63

abbrev pub ep : List ℕ → Result (ℕ × List ℕ) Fault
ep = small 0 15

abbrev pub grant : List ℕ → Result (ℕ × List ℕ) Fault
grant = number 4 1 4096

abbrev pub count : List ℕ → Result (ℕ × List ℕ) Fault
count = number 4 1 4294967295

abbrev pub label : List ℕ → Result (ℕ × List ℕ) Fault
label = number 8 0 18446744073709551615

abbrev pub flight_of : ℕ × ℕ → FlightId
flight_of z = record { issuer = z.0; number = z.1 }

abbrev pub kernels : ℕ → FlightId
kernels n = record { issuer = kernel; number = n }

abbrev pub act_id : List ℕ → Result (FlightId × List ℕ) Fault
act_id = mapped flight_of (pair act (λ issuer. count))

abbrev pub kernel_id : List ℕ → Result (FlightId × List ℕ) Fault
kernel_id = mapped kernels count

abbrev pub HeaderFields : Type 0
HeaderFields = ℕ × (ℕ × (ℕ × (ℕ × (ℕ × (ℕ × (ℕ × (ℕ × (ℕ × ℕ))))))))

abbrev pub header_fields : List ℕ → Result (HeaderFields × List ℕ) Fault
header_fields =
    pair (small 0 1) (λ flags.
    pair (byte (is_reply_ep flags)) (λ reply_ep.
    pair act (λ sender.
    pair (small 0 0) (λ lane.
    pair (number 2 0 512) (λ len.
    pair (number 2 0 0) (λ reserved.
    pair grant (λ send.
    pair (number 4 (least_reply reply_ep) (most_reply reply_ep)) (λ reply.
    pair count (λ n. label)))))))))

abbrev pub header_of : HeaderFields → Header
header_of z = record {
  flags = z.0;
  reply_ep = z.1.0;
  sender = z.1.1.0;
  lane = z.1.1.1.0;
  length = z.1.1.1.1.0;
  send = z.1.1.1.1.1.1.0;
  reply = z.1.1.1.1.1.1.1.0;
  number = z.1.1.1.1.1.1.1.1.0;
  label = z.1.1.1.1.1.1.1.1.1;
}

abbrev pub header : List ℕ → Result (Header × List ℕ) Fault
header = mapped header_of header_fields

-- so many bytes, of which there may be at most so many, behind their number
abbrev pub second : ℕ × List ℕ → List ℕ
second z = z.1

abbrev pub length_prefixed : ℕ → List ℕ → Result (List ℕ × List ℕ) Fault
length_prefixed most = mapped second (pair (number 2 0 most) some_bytes)

-- nothing more
abbrev pub whole : {X : Type 0} → X → List ℕ → Result (X × List ℕ) Fault
whole x bytes = Ok (x, bytes)

abbrev pub code_of_refusal : ℕ → Option Refusal
code_of_refusal c =
    if c == 1 then Some Refusal.NoEndpoint
    else if c == 2 then Some Refusal.NoCredits
    else if c == 3 then Some Refusal.TooLarge
    else if c == 4 then Some Refusal.Revoked
    else if c == 5 then Some Refusal.Full
    else if c == 6 then Some Refusal.OutOfRange
    else if c == 7 then Some Refusal.NoPermission
    else if c == 8 then Some Refusal.NoReplyWanted
    else if c == 9 then Some Refusal.NoSuchToken
    else if c == 10 then Some Refusal.BadReplyEndpoint
    else None

abbrev pub perm_of : ℕ → Option Perm
perm_of c = if c == 1 then Some Perm.R else if c == 2 then Some Perm.W else if c == 3 then Some Perm.Rw else None

abbrev pub kind_of : ℕ → Option PacketTag
kind_of c =
    if c == 1 then Some PacketTag.Message
    else if c == 2 then Some PacketTag.Credit
    else if c == 3 then Some PacketTag.Read
    else if c == 4 then Some PacketTag.Write
    else if c == 5 then Some PacketTag.Answer
    else if c == 6 then Some PacketTag.Install
    else if c == 7 then Some PacketTag.Close
    else None

abbrev pub answer_form_of : ℕ → Option AnswerTag
answer_form_of c =
    if c == 0 then Some AnswerTag.Sent
    else if c == 1 then Some AnswerTag.Replied
    else if c == 2 then Some AnswerTag.Written
    else if c == 3 then Some AnswerTag.Bytes
    else if c == 4 then Some AnswerTag.Refused
    else None

abbrev pub record_form_of : ℕ → Option RecordTag
record_form_of c = if c == 1 then Some RecordTag.Send else if c == 2 then Some RecordTag.Receive else if c == 3 then Some RecordTag.Memory else None

abbrev pub answer_by : AnswerTag → List ℕ → Result (Answer × List ℕ) Fault
answer_by AnswerTag.Sent = whole Answer.Sent
answer_by AnswerTag.Replied = whole Answer.Replied
answer_by AnswerTag.Written = whole Answer.Written
answer_by AnswerTag.Bytes = mapped Answer.Bytes (length_prefixed 4096)
answer_by AnswerTag.Refused = mapped Answer.Refused (coded code_of_refusal)

abbrev pub answer_of : AnswerTag × Answer → Answer
answer_of z = z.1

abbrev pub answer : List ℕ → Result (Answer × List ℕ) Fault
answer = mapped answer_of (pair (coded answer_form_of) answer_by)

abbrev pub send_of : ℕ × (ℕ × (ℕ × (ℕ × (ℕ × (ℕ × ℕ))))) → Fresh
send_of z = Fresh.Send z.0 z.1.0 z.1.1.0 z.1.1.1.0 z.1.1.1.1.0 z.1.1.1.1.1.0 z.1.1.1.1.1.1

abbrev pub receive_of : ℕ × (ℕ × ℕ) → Fresh
receive_of z = Fresh.Receive z.0 z.1.0 z.1.1

abbrev pub memory_of : ℕ × (ℕ × (ℕ × Perm)) → Fresh
memory_of z = Fresh.Memory z.0 z.1.0 z.1.1.0 z.1.1.1

abbrev pub send_fields : List ℕ → Result ((ℕ × (ℕ × (ℕ × (ℕ × (ℕ × (ℕ × ℕ)))))) × List ℕ) Fault
send_fields =
    pair grant (λ g. pair act (λ to. pair ep (λ to_ep. pair grant (λ to_grant. pair label (λ l. pair (number 2 1 512) (λ size. small 1 32))))))

abbrev pub receive_fields : List ℕ → Result ((ℕ × (ℕ × ℕ)) × List ℕ) Fault
receive_fields = pair grant (λ g. pair (small 1 32) (λ slots. number 2 1 512))

-- the range lies inside the largest memory
abbrev pub memory_fields : List ℕ → Result ((ℕ × (ℕ × (ℕ × Perm))) × List ℕ) Fault
memory_fields =
    pair grant (λ g. pair (number 4 0 (most_memory - 1)) (λ start. pair (number 4 1 (most_memory - start)) (λ len. coded perm_of)))

abbrev pub fresh_by : RecordTag → List ℕ → Result (Fresh × List ℕ) Fault
fresh_by RecordTag.Send = mapped send_of send_fields
fresh_by RecordTag.Receive = mapped receive_of receive_fields
fresh_by RecordTag.Memory = mapped memory_of memory_fields

abbrev pub fresh_of : RecordTag × Fresh → Fresh
fresh_of z = z.1

abbrev pub fresh : List ℕ → Result (Fresh × List ℕ) Fault
fresh = mapped fresh_of (pair (coded record_form_of) fresh_by)

abbrev pub place : List ℕ → Result (ℕ × List ℕ) Fault
place = number 4 0 most_memory

abbrev pub most_from : ℕ → ℕ
most_from p = min 4096 (most_memory - p)

abbrev pub message_of : ℕ × (ℕ × (ℕ × (Header × List ℕ))) → Packet
message_of z = Packet.Message z.0 z.1.0 z.1.1.0 (record { header = z.1.1.1.0; payload = z.1.1.1.1 })

abbrev pub credit_of : FlightId × (ℕ × ℕ) → Packet
credit_of z = Packet.Credit z.0 z.1.0 z.1.1

abbrev pub read_of : FlightId × (ℕ × (ℕ × ℕ)) → Packet
read_of z = Packet.Read z.0 z.1.0 z.1.1.0 (replicate z.1.1.1 0)

abbrev pub write_of : FlightId × (ℕ × (ℕ × List ℕ)) → Packet
write_of z = Packet.Write z.0 z.1.0 z.1.1.0 z.1.1.1

abbrev pub answered_of : FlightId × Answer → Packet
answered_of z = Packet.Answer z.0 z.1

abbrev pub install_of : FlightId × (ℕ × (ℕ × Fresh)) → Packet
install_of z = Packet.Install z.0 z.1.0 z.1.1.0 z.1.1.1

abbrev pub close_of : FlightId × (ℕ × (ℕ × ℕ)) → Packet
close_of z = Packet.Close z.0 z.1.0 z.1.1.0 z.1.1.1

abbrev pub message_fields : List ℕ → Result ((ℕ × (ℕ × (ℕ × (Header × List ℕ)))) × List ℕ) Fault
message_fields = pair act (λ to. pair ep (λ e. pair grant (λ g. pair header (λ h. some_bytes h.length))))

abbrev pub message : List ℕ → Result (Packet × List ℕ) Fault
message = mapped message_of message_fields

abbrev pub credit_fields : List ℕ → Result ((FlightId × (ℕ × ℕ)) × List ℕ) Fault
credit_fields = pair act_id (λ id. pair act (λ to. grant))

abbrev pub credit : List ℕ → Result (Packet × List ℕ) Fault
credit = mapped credit_of credit_fields

abbrev pub read_fields : List ℕ → Result ((FlightId × (ℕ × (ℕ × ℕ))) × List ℕ) Fault
read_fields = pair act_id (λ id. pair grant (λ g. pair place (λ p. number 2 0 (most_from p))))

abbrev pub read : List ℕ → Result (Packet × List ℕ) Fault
read = mapped read_of read_fields

abbrev pub write_fields : List ℕ → Result ((FlightId × (ℕ × (ℕ × List ℕ))) × List ℕ) Fault
write_fields = pair act_id (λ id. pair grant (λ g. pair place (λ p. length_prefixed (most_from p))))

abbrev pub write : List ℕ → Result (Packet × List ℕ) Fault
write = mapped write_of write_fields

abbrev pub answered_fields : List ℕ → Result ((FlightId × Answer) × List ℕ) Fault
answered_fields = pair act_id (λ id. answer)

abbrev pub answered_packet : List ℕ → Result (Packet × List ℕ) Fault
answered_packet = mapped answered_of answered_fields

abbrev pub install_fields : List ℕ → Result ((FlightId × (ℕ × (ℕ × Fresh))) × List ℕ) Fault
install_fields = pair kernel_id (λ id. pair act (λ to. pair ep (λ e. fresh)))

abbrev pub install : List ℕ → Result (Packet × List ℕ) Fault
install = mapped install_of install_fields

abbrev pub close_fields : List ℕ → Result ((FlightId × (ℕ × (ℕ × ℕ))) × List ℕ) Fault
close_fields = pair kernel_id (λ id. pair act (λ to. pair ep (λ e. grant)))

abbrev pub close : List ℕ → Result (Packet × List ℕ) Fault
close = mapped close_of close_fields

abbrev pub packet_by : PacketTag → List ℕ → Result (Packet × List ℕ) Fault
packet_by PacketTag.Message = message
packet_by PacketTag.Credit = credit
packet_by PacketTag.Read = read
packet_by PacketTag.Write = write
packet_by PacketTag.Answer = answered_packet
packet_by PacketTag.Install = install
packet_by PacketTag.Close = close

abbrev pub packet_of : PacketTag × Packet → Packet
packet_of z = z.1

abbrev pub packet : List ℕ → Result (Packet × List ℕ) Fault
packet = mapped packet_of (pair (coded kind_of) packet_by)
