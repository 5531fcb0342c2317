pub mod HeadOnly
pub mod Stuck
pub mod Alike
pub mod Sixteen
pub mod On
pub mod Needed
