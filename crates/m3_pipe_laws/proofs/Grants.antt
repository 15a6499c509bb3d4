pub mod Exclusion
pub mod Flights
pub mod Lines
