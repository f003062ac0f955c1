pub mod TypedRows4
pub mod Heard4
pub mod Clients4
pub mod Heard6
pub mod TypedLeases6
pub mod Clients6
pub mod LocalAddresses
pub mod ExactSteps
pub mod StepJobs
pub mod WaitingJobs
pub mod Beginnings
pub mod ExactLives
pub mod UnfinishedLives
pub mod ForetoldLives
pub use Rattle.file_evidence.proofs as FileEvidence
pub use Rattle.safe_texts.proofs as SafeTexts
