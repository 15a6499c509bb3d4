-- Packets, and the bytes that spell them: a byte for the kind, and its fields.
use Rattle.std.specs.Prelude.{◌≡◌, ℕ, ◌-◌, ◌==◌, nat_le, ◌&&◌, if◌then◌else◌, List, [], ◌∷◌, ◌++◌, length, slice_index, min, replicate, ⊤}
use Rattle.byteorder.specs.Endian.{little_bytes}
use Rattle.m3_base.specs.declared.command.Answer.{Answer}
use Rattle.m3_base.specs.declared.ids.FlightId.{FlightId}
use Rattle.m3_base.specs.declared.packet.Fresh.{Fresh}
use Rattle.m3_base.specs.declared.packet.Packet.{Packet}
use Rattle.m3_base.specs.declared.packet.Perm.{Perm}
use Rattle.m3_base.specs.Ideal.Flights.{kernel}
use Rattle.m3_base.specs.RefusalCodes.{refusal_code}
use Rattle.m3_wire.specs.declared.refusal.Part.{Part}
use Rattle.m3_wire.specs.Headers.{IsAct, IsGrant, IsCount, IsLabel, FitsHeader, header_bytes, header_part}
use Rattle.m3_base.specs.Limits.{Within}

abbrev pub IsEp : ℕ → Type 0
IsEp e = Within 0 15 e

-- a flight of an activity, and one of the kernel
abbrev pub IsOfAct : FlightId → Type 0
IsOfAct id = IsAct id.issuer × IsCount id.number

abbrev pub IsOfKernel : FlightId → Type 0
IsOfKernel id = (id.issuer ≡ kernel) × IsCount id.number

-- memory has at most this many bytes
abbrev pub most_memory : ℕ
most_memory = 1048576

-- at most 4,096 bytes from this place on lie inside the largest memory
abbrev pub IsAccess : ℕ → ℕ → Type 0
IsAccess place len = Within 0 most_memory place × Within 0 (min 4096 (most_memory - place)) len

abbrev pub FitsAnswer : Answer → Type 0
FitsAnswer Answer.Sent = ⊤
FitsAnswer Answer.Replied = ⊤
FitsAnswer Answer.Written = ⊤
FitsAnswer (Answer.Bytes bytes) = Within 0 4096 (length bytes)
FitsAnswer (Answer.Refused why) = ⊤

abbrev pub FitsFresh : Fresh → Type 0
FitsFresh (Fresh.Send grant to to_ep to_grant label size limit) =
    IsGrant grant × IsAct to × IsEp to_ep × IsGrant to_grant × IsLabel label × Within 1 512 size × Within 1 32 limit
FitsFresh (Fresh.Receive grant slots size) = IsGrant grant × Within 1 32 slots × Within 1 512 size
FitsFresh (Fresh.Memory grant start len perm) =
    IsGrant grant × Within 0 (most_memory - 1) start × Within 1 (most_memory - start) len

-- the fields of a packet are within their ranges
abbrev pub FitsPacket : Packet → Type 0
FitsPacket (Packet.Message to ep grant message) =
    IsAct to × IsEp ep × IsGrant grant × FitsHeader message.header × (length message.payload ≡ message.header.length)
FitsPacket (Packet.Credit id to grant) = IsOfAct id × IsAct to × IsGrant grant
FitsPacket (Packet.Read id grant place buffer) =
    IsOfAct id × IsGrant grant × IsAccess place (length buffer) × (buffer ≡ replicate (length buffer) 0)
FitsPacket (Packet.Write id grant place payload) = IsOfAct id × IsGrant grant × IsAccess place (length payload)
FitsPacket (Packet.Answer id answer) = IsOfAct id × FitsAnswer answer
FitsPacket (Packet.Install id to ep fresh) = IsOfKernel id × IsAct to × IsEp ep × FitsFresh fresh
FitsPacket (Packet.Close id to ep grant) = IsOfKernel id × IsAct to × IsEp ep × IsGrant grant

abbrev pub perm_code : Perm → ℕ
perm_code Perm.R = 1
perm_code Perm.W = 2
perm_code Perm.Rw = 3

-- a length and the bytes
abbrev pub counted_bytes : List ℕ → List ℕ
counted_bytes bytes = little_bytes 2 (length bytes) ++ bytes

abbrev pub answer_bytes : Answer → List ℕ
answer_bytes Answer.Sent = 0 ∷ []
answer_bytes Answer.Replied = 1 ∷ []
answer_bytes Answer.Written = 2 ∷ []
answer_bytes (Answer.Bytes bytes) = 3 ∷ counted_bytes bytes
answer_bytes (Answer.Refused why) = 4 ∷ refusal_code why ∷ []

abbrev pub fresh_bytes : Fresh → List ℕ
fresh_bytes (Fresh.Send grant to to_ep to_grant label size limit) =
    1 ∷ little_bytes 4 grant ++ to ∷ to_ep ∷ little_bytes 4 to_grant ++ little_bytes 8 label ++ little_bytes 2 size ++ limit ∷ []
fresh_bytes (Fresh.Receive grant slots size) = 2 ∷ little_bytes 4 grant ++ slots ∷ little_bytes 2 size
fresh_bytes (Fresh.Memory grant start len perm) =
    3 ∷ little_bytes 4 grant ++ little_bytes 4 start ++ little_bytes 4 len ++ perm_code perm ∷ []

abbrev pub id_bytes : FlightId → List ℕ
id_bytes id = id.issuer ∷ little_bytes 4 id.number

abbrev pub packet_bytes : Packet → List ℕ
packet_bytes (Packet.Message to ep grant message) =
    1 ∷ to ∷ ep ∷ little_bytes 4 grant ++ header_bytes message.header ++ message.payload
packet_bytes (Packet.Credit id to grant) = 2 ∷ id_bytes id ++ to ∷ little_bytes 4 grant
packet_bytes (Packet.Read id grant place buffer) =
    3 ∷ id_bytes id ++ little_bytes 4 grant ++ little_bytes 4 place ++ little_bytes 2 (length buffer)
packet_bytes (Packet.Write id grant place payload) =
    4 ∷ id_bytes id ++ little_bytes 4 grant ++ little_bytes 4 place ++ counted_bytes payload
packet_bytes (Packet.Answer id answer) = 5 ∷ id_bytes id ++ answer_bytes answer
packet_bytes (Packet.Install id to ep fresh) = 6 ∷ little_bytes 4 id.number ++ to ∷ ep ∷ fresh_bytes fresh
packet_bytes (Packet.Close id to ep grant) = 7 ∷ little_bytes 4 id.number ++ to ∷ ep ∷ little_bytes 4 grant

-- the bytes spell the packet
abbrev pub IsPacket : Packet → List ℕ → Type 0
IsPacket p text = FitsPacket p × (text ≡ packet_bytes p)

-- the part in which a byte of a packet lies; the header of a message begins at byte 7
abbrev pub packet_part : List ℕ → ℕ → Part
packet_part bytes at =
    if at == 0 then Part.Kind
    else if (slice_index bytes 0 == 1) && nat_le 7 at then header_part (at - 7)
    else Part.Field
