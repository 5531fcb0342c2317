pub mod Account
pub mod Bounds
