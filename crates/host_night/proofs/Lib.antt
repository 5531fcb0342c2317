pub mod TellLaws
pub mod Walk
