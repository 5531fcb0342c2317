pub mod LineValues
pub mod States
