pub mod Standing
pub mod Ran
pub mod Unique
