pub mod Spelling
pub mod Runs
pub mod Heads
pub mod Small
pub mod Outcome
