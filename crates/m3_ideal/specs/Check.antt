-- The check of journals: verdicts, entries and audits.
pub mod Verdicts
pub mod Entries
pub mod AuditCounts
pub mod AuditLines
