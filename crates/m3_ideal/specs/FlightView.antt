-- What a flight is to a reader. A read carries a buffer of zeros.
use Rattle.std.specs.Prelude.{replicate}
use Rattle.m3_base.specs.declared.packet.Packet.{Packet}
use Rattle.m3_ideal.specs.declared.flight.Cargo.{Cargo}

abbrev pub packet_of : Cargo → Packet
packet_of (Cargo.Message to ep grant letter) = Packet.Message to ep grant letter
packet_of (Cargo.Credit id to grant) = Packet.Credit id to grant
packet_of (Cargo.Read id grant place len) = Packet.Read id grant place (replicate len 0)
packet_of (Cargo.Write id grant place payload) = Packet.Write id grant place payload
packet_of (Cargo.Answer id answer) = Packet.Answer id answer
packet_of (Cargo.Install id to ep fresh) = Packet.Install id to ep fresh
packet_of (Cargo.Close id to ep grant) = Packet.Close id to ep grant
