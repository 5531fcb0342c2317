pub mod Along
pub mod Single
pub mod Lines
pub mod Agree
pub mod Within
pub mod Growing
pub mod Rowwise
