pub mod Fifteen
pub mod Plain
pub mod Titles
pub mod AnyPage
pub mod ShownTexts
