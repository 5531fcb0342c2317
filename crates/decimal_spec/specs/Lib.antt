pub mod Number
pub mod Parts
pub mod Powers
pub mod Quotient
pub mod Samples
pub mod Spelling
