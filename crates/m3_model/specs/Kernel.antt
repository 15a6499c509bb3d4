pub mod Step
pub mod State
pub mod Driver
