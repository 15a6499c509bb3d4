pub mod Payloads
pub mod Setup
pub mod Summary
pub mod Rows
