pub mod Choices
pub mod Outcomes
pub mod Work
