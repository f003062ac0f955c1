pub mod Printings
pub mod Causes
pub mod OpeningSteps
pub mod BegunTurns
pub mod StopMoments
pub mod TurnSteps
pub mod Waitings
pub mod OneTurn
pub mod Stretches
pub mod CutOffs
pub mod Fronts
mod AskedAlike
pub mod Wakings
pub mod Filings
pub mod ToldLives
pub mod Whole
pub use Rattle.exact_texts.proofs as ExactTexts
pub use Rattle.exact_texts.proofs.FileEvidence
pub use Rattle.exact_texts.proofs.SafeTexts
