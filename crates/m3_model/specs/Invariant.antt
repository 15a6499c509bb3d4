pub mod Distinct
pub mod LinkWalk
pub mod Housing
pub mod Parcels
pub mod Scheduling
pub mod Structure
pub mod IdealFacts
