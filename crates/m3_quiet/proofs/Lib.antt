pub mod Sums
pub mod Events
pub mod Driver
pub mod Schedule
pub mod Flags
pub mod Runs
