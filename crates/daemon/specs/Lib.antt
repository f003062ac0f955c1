pub mod Lives
pub mod Acts
pub mod Streams
pub mod Serving
pub mod Waking
pub mod Cuts
pub mod Served
pub mod Filed
pub mod SameCalls
pub use Rattle.exact_texts.specs as ExactTexts
pub use Rattle.exact_texts.specs.FileEvidence
pub use Rattle.exact_texts.specs.SafeTexts
