pub mod WalkLaws
pub mod Widths
