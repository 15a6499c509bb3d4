pub mod TurnMatches
pub mod TurnCommand
pub mod TurnRefines
pub mod TurnResults
pub mod TurnAnswers
