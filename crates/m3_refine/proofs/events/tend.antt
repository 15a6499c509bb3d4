pub mod ApplyHeldPacket
pub mod TendRefines
