pub mod Ends
pub mod Heads
pub mod Parts
pub mod Seen
pub mod Unique
