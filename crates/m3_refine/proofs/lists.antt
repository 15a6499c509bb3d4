pub mod EachElement
pub mod Insertion
pub mod Replacement
pub mod Update
pub mod PerLink
