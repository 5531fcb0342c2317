pub mod On
pub mod Sixteen
