pub mod OwnNames
pub mod Post
