pub mod LeastTend
pub mod LeastHeld
pub mod WantedSwitch
