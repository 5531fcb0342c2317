pub mod DigitLaws
pub mod EntryLaws
pub mod KindLaws
pub mod SpelledDigitLaws
