pub mod Notices
pub mod Order
pub mod Window
