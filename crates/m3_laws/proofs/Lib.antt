pub mod invariant
pub mod credits
pub mod order
pub mod grants
pub mod refusals
pub mod journals
pub mod examples
