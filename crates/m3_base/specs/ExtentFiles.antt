pub mod Table
pub mod Extents
pub mod Steps
pub mod JournalTables
pub mod ScriptEntries
pub mod Rows
