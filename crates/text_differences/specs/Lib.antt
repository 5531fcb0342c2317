pub mod Small
pub mod Stored
