pub mod Moves
pub mod Repeats
