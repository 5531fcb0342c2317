pub mod Moved
pub mod Lines
pub mod Damage
pub mod Needed
