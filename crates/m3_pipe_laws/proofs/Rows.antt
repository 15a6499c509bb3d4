pub mod Tests
pub mod Theorem
pub mod TwentyBytes
