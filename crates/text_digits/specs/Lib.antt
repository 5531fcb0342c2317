pub mod Pairs
pub mod Counts
pub mod Lent
