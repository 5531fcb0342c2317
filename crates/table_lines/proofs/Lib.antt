pub mod LineEnds
pub mod Bare
pub mod HeadLaws
