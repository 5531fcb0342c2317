pub mod Kinds
pub mod Digits
pub mod Bytes
pub mod SpelledDigits
pub mod EveryLaws
pub mod Entries
