pub mod NameTurns
pub mod Comparing
