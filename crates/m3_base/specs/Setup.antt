pub mod Rules
pub mod View
pub mod Obligations
pub mod GrantTable
