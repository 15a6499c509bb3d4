pub mod Changes
pub mod Opening
pub mod Statements
pub mod Steps
