pub mod Logic
pub mod Places
pub mod PlaceLaws
pub mod Refusals
