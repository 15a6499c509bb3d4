pub mod Protocol
pub mod Pipe
pub mod Ring
pub mod Laws
pub mod Exclusion
pub mod Rows
