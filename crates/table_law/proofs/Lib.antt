pub mod Complete
pub mod Heads
pub mod LineLengths
pub mod Meaning
pub mod Outcome
pub mod Small
pub mod Sound
pub mod Tokens
