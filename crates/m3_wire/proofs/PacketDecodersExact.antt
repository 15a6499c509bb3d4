-- The readers of packets are exact.
use Rattle.std.proofs.Common.{◌≡◌, ℕ, ◌-◌, ◌<◌, ◌≤◌, List, [], ◌∷◌, ◌++◌, length, drop, replicate, Result, Ok, refl, sym, ap, subst, ◌∙◌, arith, lit<}
use Rattle.std.proofs.lemmas.List.{length-replicate}
use Rattle.byteorder.specs.Endian.{little_bytes}
use Rattle.m3_base.specs.declared.command.Answer.{Answer}
use Rattle.m3_base.specs.declared.ids.FlightId.{FlightId}
use Rattle.m3_base.specs.declared.message.Header.{Header}
use Rattle.m3_base.specs.declared.packet.Fresh.{Fresh}
use Rattle.m3_base.specs.declared.packet.Packet.{Packet}
use Rattle.m3_base.specs.declared.packet.Perm.{Perm}
use Rattle.m3_wire.specs.declared.codes.PacketTag.{PacketTag}
use Rattle.m3_wire.specs.declared.codes.AnswerTag.{AnswerTag}
use Rattle.m3_wire.specs.declared.codes.RecordTag.{RecordTag}
use Rattle.m3_wire.specs.ByteReader.{Fault, number, mapped}
use Rattle.m3_wire.specs.Headers.{IsAct, IsGrant, IsLabel, FitsHeader}
use Rattle.m3_wire.specs.Packets
use Rattle.m3_wire.specs.Decoders as formats
use Rattle.m3_wire.proofs.ExactDecoder.{Sound, Exact, mapped_sound}
use Rattle.m3_wire.proofs.BytePrimitives.{IsLong, bytes_exact}
use Rattle.m3_wire.proofs.NumberDecoderExact.{number_exact}
use Rattle.m3_wire.proofs.HeaderDecoderExact.{after, small_exact, act_exact, ep_exact, grant_exact, label_exact, act_id_exact, kernel_id_exact, header_exact, counted_exact}
use Rattle.m3_wire.proofs.TaggedChoice.{Any, kind_exact, answer_form_exact, record_form_exact, refusal_exact, perm_exact, kind_code, answer_code, record_code, kinds_exact}
use Rattle.m3_wire.proofs.Results.{ok_same}
use Rattle.m3_base.specs.Limits.{Within}

-- where the front of a reading is one kind of several
module _ {K P X : Type 0} (kind_in : P → K) (k : K) (Good : P → Type 0) (fields : P → List ℕ) (f : X → P) {reader : List ℕ → Result (X × List ℕ) Fault} {GoodX : X → Type 0} {spell : X → List ℕ}
    (is : (x : X) → kind_in (f x) ≡ k) (fits : (x : X) → GoodX x → Good (f x)) (same : (x : X) → GoodX x → fields (f x) ≡ spell x) (exact : Exact reader GoodX spell) where
  pub of_kind : Sound (mapped f reader) (λ p. (kind_in p ≡ k) × Good p) fields
  of_kind = mapped_sound f reader GoodX spell (λ p. (kind_in p ≡ k) × Good p) fields (λ x g. (is x, fits x g)) same exact.sound

pub read_again : {P X : Type 0} (f : X → P) {reader : List ℕ → Result (X × List ℕ) Fault} {GoodX : X → Type 0} {spell : X → List ℕ} (exact : Exact reader GoodX spell)
    (x : X) (rest : List ℕ) → GoodX x → mapped f reader (spell x ++ rest) ≡ Ok (f x, rest)
unfolding mapped
read_again f exact x rest g = rw (exact.again x rest g) refl

-- a reader that reads nothing
whole_sound : {P : Type 0} (p : P) (Good : P → Type 0) (fields : P → List ℕ) → Good p → fields p ≡ [] → Sound (formats.whole p) Good fields
whole_sound {P} p Good fields good is = record {
  takes = λ bytes x rest are e.
      let a : P × List ℕ = (p, bytes) in let b : P × List ℕ = (x, rest) in
      let T : P × List ℕ → Type 0 = λ r. Good r.0 × (bytes ≡ fields r.0 ++ r.1) in
      subst T (ok_same a b e) (good, rw is refl);
  short = λ bytes are e. absurd cc;
  bad = λ bytes left are e. absurd cc;
  some = (p, good);
}

abbrev pub form_in : Answer → AnswerTag
form_in Answer.Sent = AnswerTag.Sent
form_in Answer.Replied = AnswerTag.Replied
form_in Answer.Written = AnswerTag.Written
form_in (Answer.Bytes bytes) = AnswerTag.Bytes
form_in (Answer.Refused why) = AnswerTag.Refused

abbrev answer_fields : Answer → List ℕ
answer_fields a = drop 1 (Packets.answer_bytes a)

answer_whole : (a : Answer) → Packets.answer_bytes a ≡ answer_code (form_in a) ∷ answer_fields a
answer_whole Answer.Sent = refl
answer_whole Answer.Replied = refl
answer_whole Answer.Written = refl
answer_whole (Answer.Bytes bytes) = refl
answer_whole (Answer.Refused why) = refl

abbrev FitsForm : AnswerTag → Answer → Type 0
FitsForm k a = (form_in a ≡ k) × Packets.FitsAnswer a

bytes_answer : Exact (formats.length_prefixed 4096) (λ bytes. Within 0 4096 (length bytes)) Packets.counted_bytes
bytes_answer = counted_exact 4096 (omega arith)

answer_sound : (k : AnswerTag) → Sound (formats.answer_by k) (FitsForm k) answer_fields
answer_sound AnswerTag.Sent = whole_sound Answer.Sent (FitsForm AnswerTag.Sent) answer_fields (refl, tt) refl
answer_sound AnswerTag.Replied = whole_sound Answer.Replied (FitsForm AnswerTag.Replied) answer_fields (refl, tt) refl
answer_sound AnswerTag.Written = whole_sound Answer.Written (FitsForm AnswerTag.Written) answer_fields (refl, tt) refl
answer_sound AnswerTag.Bytes = of_kind form_in AnswerTag.Bytes Packets.FitsAnswer answer_fields Answer.Bytes (λ x. refl) (λ x g. g) (λ x g. refl) bytes_answer
answer_sound AnswerTag.Refused = of_kind form_in AnswerTag.Refused Packets.FitsAnswer answer_fields Answer.Refused (λ x. refl) (λ x g. tt) (λ x g. refl) refusal_exact

answer_again : (a : Answer) (rest : List ℕ) → Packets.FitsAnswer a → formats.answer_by (form_in a) (answer_fields a ++ rest) ≡ Ok (a, rest)
answer_again Answer.Sent rest g = refl
answer_again Answer.Replied rest g = refl
answer_again Answer.Written rest g = refl
answer_again (Answer.Bytes bytes) rest g = read_again Answer.Bytes bytes_answer bytes rest g
answer_again (Answer.Refused why) rest g = read_again Answer.Refused refusal_exact why rest tt

pub answer_exact : Exact formats.answer Packets.FitsAnswer Packets.answer_bytes
answer_exact = kinds_exact formats.answer_form_of answer_code answer_form_exact formats.answer_by formats.answer_of (λ z. refl) form_in Packets.FitsAnswer answer_fields Packets.answer_bytes answer_whole answer_sound answer_again

abbrev pub record_in : Fresh → RecordTag
record_in (Fresh.Send grant to to_ep to_grant label size limit) = RecordTag.Send
record_in (Fresh.Receive grant slots size) = RecordTag.Receive
record_in (Fresh.Memory grant start len perm) = RecordTag.Memory

abbrev fresh_fields : Fresh → List ℕ
fresh_fields a = drop 1 (Packets.fresh_bytes a)

fresh_whole : (a : Fresh) → Packets.fresh_bytes a ≡ record_code (record_in a) ∷ fresh_fields a
fresh_whole (Fresh.Send grant to to_ep to_grant label size limit) = refl
fresh_whole (Fresh.Receive grant slots size) = refl
fresh_whole (Fresh.Memory grant start len perm) = refl

start_small : (start : ℕ) → Within 0 (Packets.most_memory - 1) start → 1 ≤ Packets.most_memory - start
start_small start g = omega (arith, g.1)

size_exact : Exact (number 2 1 512) (Within 1 512) (little_bytes 2)
size_exact = number_exact 2 1 512 (omega arith) (omega arith) (lit< tt)

abbrev SendGood : ℕ × (ℕ × (ℕ × (ℕ × (ℕ × (ℕ × ℕ))))) → Type 0
SendGood z = IsGrant z.0 × (IsAct z.1.0 × (Packets.IsEp z.1.1.0 × (IsGrant z.1.1.1.0 × (IsLabel z.1.1.1.1.0 × (Within 1 512 z.1.1.1.1.1.0 × Within 1 32 z.1.1.1.1.1.1)))))

send_exact : Exact formats.send_fields SendGood (λ z. fresh_fields (formats.send_of z))
send_exact = after grant_exact (λ g h0. after act_exact (λ to h1. after ep_exact (λ to_ep h2. after grant_exact (λ to_grant h3. after label_exact (λ l h4. after size_exact (λ size h5. small_exact 1 32 (omega arith)))))))

abbrev ReceiveGood : ℕ × (ℕ × ℕ) → Type 0
ReceiveGood z = IsGrant z.0 × (Within 1 32 z.1.0 × Within 1 512 z.1.1)

receive_exact : Exact formats.receive_fields ReceiveGood (λ z. fresh_fields (formats.receive_of z))
receive_exact = after grant_exact (λ g h0. after (small_exact 1 32 (omega arith)) (λ slots h1. size_exact))

abbrev MemoryGood : ℕ × (ℕ × (ℕ × Perm)) → Type 0
MemoryGood z = IsGrant z.0 × (Within 0 (Packets.most_memory - 1) z.1.0 × (Within 1 (Packets.most_memory - z.1.0) z.1.1.0 × Any z.1.1.1))

memory_exact : Exact formats.memory_fields MemoryGood (λ z. fresh_fields (formats.memory_of z))
memory_exact = after grant_exact (λ g h0. after (number_exact 4 0 (Packets.most_memory - 1) (omega arith) (omega arith) (lit< tt)) (λ start h1.
    after (number_exact 4 1 (Packets.most_memory - start) (omega arith) (start_small start h1) (omega arith)) (λ len h2. perm_exact)))

fresh_sound : (k : RecordTag) → Sound (formats.fresh_by k) (λ a. (record_in a ≡ k) × Packets.FitsFresh a) fresh_fields
fresh_sound RecordTag.Send = of_kind record_in RecordTag.Send Packets.FitsFresh fresh_fields formats.send_of (λ x. refl)
    (λ z g. (g.0, g.1.0, g.1.1.0, g.1.1.1.0, g.1.1.1.1.0, g.1.1.1.1.1.0, g.1.1.1.1.1.1)) (λ z g. refl) send_exact
fresh_sound RecordTag.Receive = of_kind record_in RecordTag.Receive Packets.FitsFresh fresh_fields formats.receive_of (λ x. refl)
    (λ z g. (g.0, g.1.0, g.1.1)) (λ z g. refl) receive_exact
fresh_sound RecordTag.Memory = of_kind record_in RecordTag.Memory Packets.FitsFresh fresh_fields formats.memory_of (λ x. refl)
    (λ z g. (g.0, g.1.0, g.1.1.0)) (λ z g. refl) memory_exact

fresh_again : (a : Fresh) (rest : List ℕ) → Packets.FitsFresh a → formats.fresh_by (record_in a) (fresh_fields a ++ rest) ≡ Ok (a, rest)
fresh_again (Fresh.Send grant to to_ep to_grant label size limit) rest g =
    read_again formats.send_of send_exact (grant, (to, (to_ep, (to_grant, (label, (size, limit)))))) rest (g.0, (g.1, (g.2, (g.3, (g.4, (g.5, g.6))))))
fresh_again (Fresh.Receive grant slots size) rest g = read_again formats.receive_of receive_exact (grant, (slots, size)) rest (g.0, (g.1, g.2))
fresh_again (Fresh.Memory grant start len perm) rest g = read_again formats.memory_of memory_exact (grant, (start, (len, perm))) rest (g.0, (g.1, (g.2, tt)))

pub fresh_exact : Exact formats.fresh Packets.FitsFresh Packets.fresh_bytes
fresh_exact = kinds_exact formats.record_form_of record_code record_form_exact formats.fresh_by formats.fresh_of (λ z. refl) record_in Packets.FitsFresh fresh_fields Packets.fresh_bytes fresh_whole fresh_sound fresh_again

abbrev pub kind_in : Packet → PacketTag
kind_in (Packet.Message to ep grant message) = PacketTag.Message
kind_in (Packet.Credit id to grant) = PacketTag.Credit
kind_in (Packet.Read id grant place buffer) = PacketTag.Read
kind_in (Packet.Write id grant place payload) = PacketTag.Write
kind_in (Packet.Answer id answer) = PacketTag.Answer
kind_in (Packet.Install id to ep fresh) = PacketTag.Install
kind_in (Packet.Close id to ep grant) = PacketTag.Close

abbrev packet_fields : Packet → List ℕ
packet_fields p = drop 1 (Packets.packet_bytes p)

packet_whole : (p : Packet) → Packets.packet_bytes p ≡ kind_code (kind_in p) ∷ packet_fields p
packet_whole (Packet.Message to ep grant message) = refl
packet_whole (Packet.Credit id to grant) = refl
packet_whole (Packet.Read id grant place buffer) = refl
packet_whole (Packet.Write id grant place payload) = refl
packet_whole (Packet.Answer id answer) = refl
packet_whole (Packet.Install id to ep fresh) = refl
packet_whole (Packet.Close id to ep grant) = refl

abbrev MessageGood : ℕ × (ℕ × (ℕ × (Header × List ℕ))) → Type 0
MessageGood z = IsAct z.0 × (Packets.IsEp z.1.0 × (IsGrant z.1.1.0 × (FitsHeader z.1.1.1.0 × IsLong z.1.1.1.0.length z.1.1.1.1)))

message_exact : Exact formats.message_fields MessageGood (λ z. packet_fields (formats.message_of z))
message_exact = after act_exact (λ to h0. after ep_exact (λ e h1. after grant_exact (λ g h2. after header_exact (λ h h3. bytes_exact h.length))))

abbrev CreditGood : FlightId × (ℕ × ℕ) → Type 0
CreditGood z = Packets.IsOfAct z.0 × (IsAct z.1.0 × IsGrant z.1.1)

credit_exact : Exact formats.credit_fields CreditGood (λ z. packet_fields (formats.credit_of z))
credit_exact = after act_id_exact (λ id h0. after act_exact (λ to h1. grant_exact))

place_exact : Exact formats.place (Within 0 Packets.most_memory) (little_bytes 4)
place_exact = number_exact 4 0 Packets.most_memory (omega arith) (omega arith) (lit< tt)

most_small : (place : ℕ) → formats.most_from place < 65536
most_small place = omega arith

length_exact : (place : ℕ) → Exact (number 2 0 (formats.most_from place)) (Within 0 (formats.most_from place)) (little_bytes 2)
length_exact place = number_exact 2 0 (formats.most_from place) (omega arith) (omega arith) (omega (arith, most_small place))

abbrev ReadGood : FlightId × (ℕ × (ℕ × ℕ)) → Type 0
ReadGood z = Packets.IsOfAct z.0 × (IsGrant z.1.0 × (Within 0 Packets.most_memory z.1.1.0 × Within 0 (formats.most_from z.1.1.0) z.1.1.1))

abbrev read_spell : FlightId × (ℕ × (ℕ × ℕ)) → List ℕ
read_spell z = Packets.id_bytes z.0 ++ (little_bytes 4 z.1.0 ++ (little_bytes 4 z.1.1.0 ++ little_bytes 2 z.1.1.1))

read_exact : Exact formats.read_fields ReadGood read_spell
read_exact = after act_id_exact (λ id h0. after grant_exact (λ g h1. after place_exact (λ p h2. length_exact p)))

abbrev WriteGood : FlightId × (ℕ × (ℕ × List ℕ)) → Type 0
WriteGood z = Packets.IsOfAct z.0 × (IsGrant z.1.0 × (Within 0 Packets.most_memory z.1.1.0 × Within 0 (formats.most_from z.1.1.0) (length z.1.1.1)))

write_exact : Exact formats.write_fields WriteGood (λ z. packet_fields (formats.write_of z))
write_exact = after act_id_exact (λ id h0. after grant_exact (λ g h1. after place_exact (λ p h2. counted_exact (formats.most_from p) (most_small p))))

abbrev AnsweredGood : FlightId × Answer → Type 0
AnsweredGood z = Packets.IsOfAct z.0 × Packets.FitsAnswer z.1

abbrev answered_spell : FlightId × Answer → List ℕ
answered_spell z = Packets.id_bytes z.0 ++ Packets.answer_bytes z.1

answered_exact : Exact formats.answered_fields AnsweredGood answered_spell
answered_exact = after act_id_exact (λ id h0. answer_exact)

abbrev InstallGood : FlightId × (ℕ × (ℕ × Fresh)) → Type 0
InstallGood z = Packets.IsOfKernel z.0 × (IsAct z.1.0 × (Packets.IsEp z.1.1.0 × Packets.FitsFresh z.1.1.1))

install_exact : Exact formats.install_fields InstallGood (λ z. packet_fields (formats.install_of z))
install_exact = after kernel_id_exact (λ id h0. after act_exact (λ to h1. after ep_exact (λ e h2. fresh_exact)))

abbrev CloseGood : FlightId × (ℕ × (ℕ × ℕ)) → Type 0
CloseGood z = Packets.IsOfKernel z.0 × (IsAct z.1.0 × (Packets.IsEp z.1.1.0 × IsGrant z.1.1.1))

close_exact : Exact formats.close_fields CloseGood (λ z. packet_fields (formats.close_of z))
close_exact = after kernel_id_exact (λ id h0. after act_exact (λ to h1. after ep_exact (λ e h2. grant_exact)))

abbrev zeros : ℕ → List ℕ
zeros n = replicate n 0

zeros_long : (n : ℕ) → length (zeros n) ≡ n
zeros_long n = length-replicate n 0

read_fits : (z : FlightId × (ℕ × (ℕ × ℕ))) → ReadGood z → Packets.FitsPacket (formats.read_of z)
read_fits z g = rw (zeros_long z.1.1.1) (g.0, g.1.0, (g.1.1.0, g.1.1.1), refl)

packet_sound : (k : PacketTag) → Sound (formats.packet_by k) (λ p. (kind_in p ≡ k) × Packets.FitsPacket p) packet_fields
packet_sound PacketTag.Message = of_kind kind_in PacketTag.Message Packets.FitsPacket packet_fields formats.message_of (λ x. refl) (λ z g. (g.0, g.1.0, g.1.1.0, g.1.1.1.0, g.1.1.1.1)) (λ z g. refl) message_exact
packet_sound PacketTag.Credit = of_kind kind_in PacketTag.Credit Packets.FitsPacket packet_fields formats.credit_of (λ x. refl) (λ z g. (g.0, g.1.0, g.1.1)) (λ z g. refl) credit_exact
packet_sound PacketTag.Read = of_kind kind_in PacketTag.Read Packets.FitsPacket packet_fields formats.read_of (λ x. refl) read_fits (λ z g. rw (zeros_long z.1.1.1) refl) read_exact
packet_sound PacketTag.Write = of_kind kind_in PacketTag.Write Packets.FitsPacket packet_fields formats.write_of (λ x. refl) (λ z g. (g.0, g.1.0, (g.1.1.0, g.1.1.1))) (λ z g. refl) write_exact
packet_sound PacketTag.Answer = of_kind kind_in PacketTag.Answer Packets.FitsPacket packet_fields formats.answered_of (λ x. refl) (λ z g. (g.0, g.1)) (λ z g. refl) answered_exact
packet_sound PacketTag.Install = of_kind kind_in PacketTag.Install Packets.FitsPacket packet_fields formats.install_of (λ x. refl) (λ z g. (g.0, g.1.0, g.1.1.0, g.1.1.1)) (λ z g. refl) install_exact
packet_sound PacketTag.Close = of_kind kind_in PacketTag.Close Packets.FitsPacket packet_fields formats.close_of (λ x. refl) (λ z g. (g.0, g.1.0, g.1.1.0, g.1.1.1)) (λ z g. refl) close_exact

abbrev read_packet : FlightId → ℕ → ℕ → List ℕ → List ℕ → Result (Packet × List ℕ) Fault
read_packet id grant place buffer rest = Ok (Packet.Read id grant place buffer, rest)

packet_again : (p : Packet) (rest : List ℕ) → Packets.FitsPacket p → formats.packet_by (kind_in p) (packet_fields p ++ rest) ≡ Ok (p, rest)
packet_again (Packet.Message to ep grant message) rest g =
    read_again formats.message_of message_exact (to, (ep, (grant, (message.header, message.payload)))) rest (g.0, (g.1, (g.2, (g.3, g.4))))
packet_again (Packet.Credit id to grant) rest g = read_again formats.credit_of credit_exact (id, (to, grant)) rest (g.0, (g.1, g.2))
packet_again (Packet.Read id grant place buffer) rest g =
    read_again formats.read_of read_exact (id, (grant, (place, length buffer))) rest (g.0, (g.1, (g.2.0, g.2.1)))
    ∙ ap (λ (b : List ℕ). read_packet id grant place b rest) (sym g.3)
packet_again (Packet.Write id grant place payload) rest g = read_again formats.write_of write_exact (id, (grant, (place, payload))) rest (g.0, (g.1, (g.2.0, g.2.1)))
packet_again (Packet.Answer id answer) rest g = read_again formats.answered_of answered_exact (id, answer) rest (g.0, g.1)
packet_again (Packet.Install id to ep fresh) rest g = read_again formats.install_of install_exact (id, (to, (ep, fresh))) rest (g.0, (g.1, (g.2, g.3)))
packet_again (Packet.Close id to ep grant) rest g = read_again formats.close_of close_exact (id, (to, (ep, grant))) rest (g.0, (g.1, (g.2, g.3)))

pub packet_exact : Exact formats.packet Packets.FitsPacket Packets.packet_bytes
packet_exact = kinds_exact formats.kind_of kind_code kind_exact formats.packet_by formats.packet_of (λ z. refl) kind_in Packets.FitsPacket packet_fields Packets.packet_bytes packet_whole packet_sound packet_again
