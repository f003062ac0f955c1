mod StandingLines
pub mod FittingLists
mod Answering
mod FittingTurns
mod LinesOfLives
mod ClientJobs
pub mod ToldLives
