pub mod Means
pub mod Unique
