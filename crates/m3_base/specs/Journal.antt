pub mod Audit
pub mod OutcomeForms
pub mod Entry
pub mod Legal
pub mod Replies
