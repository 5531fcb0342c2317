pub mod Titles
pub mod Taking
