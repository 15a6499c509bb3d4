pub mod Issue
pub mod CommandRefines
