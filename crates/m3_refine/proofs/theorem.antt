pub mod NoProgramMoves
pub mod StepIsLocalMove
pub mod AnyStepMoves
