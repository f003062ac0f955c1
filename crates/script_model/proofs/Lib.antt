pub mod LineNumberLaws
pub mod SpelledRows
pub mod SpelledTurns
