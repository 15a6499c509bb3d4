pub mod Changes
pub mod Contexts
pub mod Lighter
pub mod NewFlight
pub mod Opening
pub mod Whole
