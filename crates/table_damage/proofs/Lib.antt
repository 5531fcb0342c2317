pub mod Damage
pub mod Lines
