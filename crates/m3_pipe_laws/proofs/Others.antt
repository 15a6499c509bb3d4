pub mod Commands
pub mod Frames
pub mod Grants
pub mod Landings
pub mod Sides
