pub mod Grammar
pub mod Headers
pub mod Packets
pub mod Refusals
pub mod Decoders
pub mod ByteReader
