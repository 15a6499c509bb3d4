pub mod Answers
pub mod Commands
pub mod Landings
pub mod Opening
pub mod Steps
pub mod WholeRuns
