pub mod Answers
pub mod Blocks
pub mod Compound
pub mod Cut
pub mod Parts
