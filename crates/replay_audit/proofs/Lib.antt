pub mod ToldLines
mod TypedLives
pub mod JustLives
mod PlainLives
mod CountedLines
mod FittingLives
pub mod YesLives
