pub mod Delivery
pub mod Memory
