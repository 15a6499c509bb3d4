pub mod HomeTile
pub mod command
pub mod take
pub mod tend
pub mod order
pub mod turn
