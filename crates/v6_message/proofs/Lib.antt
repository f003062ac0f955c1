pub mod OptionLists
pub mod Lengths
pub mod SpelledOptions
pub mod ReadFields
pub mod MessageBack
