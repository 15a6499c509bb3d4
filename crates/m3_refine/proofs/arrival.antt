pub mod ArriveIsLand
pub mod ArriveIsLandAll
pub mod ArriveKeeps
pub mod CurrentContext
pub mod AnswerAndClosed
pub mod KeepsKnownActivities
