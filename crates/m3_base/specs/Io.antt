pub mod Streams
pub mod MemoryStreams
pub mod MemoryStreamsView
