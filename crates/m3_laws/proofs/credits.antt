pub mod EndpointWeights
pub mod Counting
pub mod Issue
pub mod Land
pub mod Answer
pub mod Orders
pub mod CreditReturns
