pub mod ListChanges
pub mod ChangeKeeps
pub mod IssueKeeps
pub mod AnswerKeeps
pub mod StepKeeps
pub mod OpeningHolds
pub mod CommandsMatchFlights
