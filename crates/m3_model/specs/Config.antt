pub mod KnownActivities
pub mod FromSetup
pub mod Site
