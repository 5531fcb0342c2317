pub mod QuotientLaws
pub mod SpellingLaws
