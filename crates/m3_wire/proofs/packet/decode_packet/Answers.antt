use Rattle.std.proofs.Common.{arith, length}
use Rattle.m3_wire.specs.Packets.{FitsPacket, packet_bytes}
use Rattle.m3_wire.specs.Decoders.{packet}
use Rattle.m3_wire.proofs.PacketDecodersExact.{packet_exact}
use Rattle.m3_wire.proofs.DecodeContracts.{first, lengths, taken_of, refused_or_none, read_or_none}
use Rattle.m3_wire.proofs.packet.decode_packet.Goals as goal

pub overflow_sub-result : goal.overflow_sub-result
overflow_sub-result c = omega (arith, lengths packet FitsPacket packet_bytes packet_exact c.args.bytes.now _ _ (λ i. omega (arith, c.type_inv.bytes i)) c.in-Ok.ensures)

pub returns-in-Ok-clause-found : goal.returns-in-Ok-clause-found
returns-in-Ok-clause-found c = first packet FitsPacket packet_bytes packet_exact c.args.bytes.now _ _ _ (λ i. omega (arith, c.type_inv.bytes i)) c.in-Ok.ensures
    (omega (arith, lengths packet FitsPacket packet_bytes packet_exact c.args.bytes.now _ _ (λ i. omega (arith, c.type_inv.bytes i)) c.in-Ok.ensures))

pub returns-in-Ok-clause-again : goal.returns-in-Ok-clause-again
returns-in-Ok-clause-again c = λ p text rest s parts. taken_of packet FitsPacket packet_bytes packet_exact c.args.bytes.now _ p _ text rest c.in-Ok.ensures s parts

pub returns-in-Err-clause-refused : goal.returns-in-Err-clause-refused
returns-in-Err-clause-refused c =
    refused_or_none packet FitsPacket packet_bytes packet_exact c.args.bytes.now c.in-Err.error c.refusal.result (λ i. omega (arith, c.type_inv.bytes i)) c.in-Err.ensures c.refusal.ensures

pub returns-in-Err-clause-again : goal.returns-in-Err-clause-again
returns-in-Err-clause-again c = λ p text rest s parts. read_or_none packet FitsPacket packet_bytes packet_exact c.args.bytes.now c.in-Err.error c.refusal.result p (p, length text) text rest c.in-Err.ensures c.refusal.ensures s parts
