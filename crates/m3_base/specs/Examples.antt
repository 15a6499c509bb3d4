pub mod Driver
pub mod Ideal
pub mod Placement
pub mod Scripts
