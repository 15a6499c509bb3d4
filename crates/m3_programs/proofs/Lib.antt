pub mod Tables
pub mod ListsMove
