pub mod Commands
pub mod Landings
