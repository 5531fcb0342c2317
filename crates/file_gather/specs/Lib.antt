pub mod Order
pub mod Bounds
