pub mod ExactJobs
pub mod ExactCalls
pub use Rattle.file_evidence.specs as FileEvidence
pub use Rattle.safe_texts.specs as SafeTexts
