pub mod ValidLoad
pub mod Rounds
pub mod Counts
pub mod AddedLines
