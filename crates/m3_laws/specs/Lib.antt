pub mod Laws
pub mod CommandFlights
pub mod Invariant
pub mod JournalLaws
pub mod GrantInvariant
pub mod MessageOrder
pub mod WellFormed
pub mod CommandRecord
