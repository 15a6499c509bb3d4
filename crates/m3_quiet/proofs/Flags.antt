pub mod Changes
pub mod Commands
pub mod Contexts
pub mod Orders
pub mod Statements
pub mod Steps
pub mod Takes
