pub mod Accepted
pub mod Stored
