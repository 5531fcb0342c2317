pub mod Walks
pub mod Ways
