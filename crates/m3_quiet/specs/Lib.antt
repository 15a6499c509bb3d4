pub mod Potential
pub mod Descent
pub mod Facts
pub mod Schedule
pub mod Flags
pub mod Runs
pub mod Rows
pub mod PremiseRows
