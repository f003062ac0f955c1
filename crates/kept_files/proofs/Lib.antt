pub mod SpelledLeases
pub mod SpelledLeases6
mod NameTexts
