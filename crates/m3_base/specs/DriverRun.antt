pub mod Budget
pub mod Configuration
pub mod Choices
pub mod Rows
