pub mod ChangeKeeps
pub mod IssueKeeps
pub mod LandKeeps
pub mod OrdersKeep
pub mod StepKeeps
