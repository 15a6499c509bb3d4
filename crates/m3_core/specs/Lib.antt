pub mod FlyingView
pub mod SlotView
pub mod ContextView
pub mod ArrivalView
pub mod Preconditions
pub mod IssueView
pub mod EndpointStep
pub mod MessageInvariant
