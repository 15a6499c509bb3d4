pub mod EntriesKeepInvariant
pub mod EntriesAreRun
pub mod LawsAfterEntries
