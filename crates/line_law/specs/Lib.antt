pub mod Every
pub mod Places
pub mod Ahead
pub mod Linewise
pub mod WholeLine
