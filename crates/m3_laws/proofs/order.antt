pub mod Sublists
pub mod OneInFlight
pub mod LandingOrderStep
pub mod LandingOrder
pub mod FetchOrderStep
pub mod FetchOrderPackets
pub mod FetchOrderGrants
pub mod FetchOrder
