pub mod step
pub mod records
pub mod wellformed
pub mod commands
