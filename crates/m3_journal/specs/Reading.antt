-- Journals read from their text.
pub mod Causes
pub mod Outcomes
pub mod Audits
pub mod Entries
pub mod Journals
pub mod Refusals
