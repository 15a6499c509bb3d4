-- What a flight carries, the next numbers of issuers, and what a step does.
pub mod FlightParts
pub mod NextNumbers
pub mod StepOutcome
pub mod Launch
