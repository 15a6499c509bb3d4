pub mod JournalCalls
pub mod Fuel
pub mod Relation
pub mod ListProgram
pub mod ShortJournal
pub mod Rows
