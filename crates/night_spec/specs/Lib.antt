pub mod Spool
pub mod Report
pub mod Night
pub mod Steps
pub mod Samples
