pub mod SpellingLaws
pub mod RowLaws
