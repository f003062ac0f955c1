pub mod AckValues
pub mod ValueTexts
pub mod ReadBack
