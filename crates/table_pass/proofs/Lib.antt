pub mod LineLaws
pub mod PassLaws
