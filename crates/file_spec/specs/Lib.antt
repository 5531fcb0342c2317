pub mod Texts
pub mod Figures
pub mod File
pub mod Places
pub mod PlaceLaws
pub mod Tabs
