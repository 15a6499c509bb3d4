pub mod EventSaysIdealSteps
pub mod TakesSayIdealSteps
pub mod OrdersSayIdealSteps
pub mod OutcomeBelongs
pub mod OrderOutcomeBelongs
pub mod CommandOutcomeBelongs
pub mod TurnOutcomeBelongs
