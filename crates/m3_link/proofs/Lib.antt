pub mod Room
pub mod CountData
pub mod Occupancy
pub mod UpdateOneLink
