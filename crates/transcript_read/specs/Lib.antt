pub mod Places
pub mod Bodies
pub mod Following
pub mod Contents
pub mod Heads
pub mod Whole
pub use Rattle.conf_text.specs as ConfText
pub use Rattle.transcript_model.specs as TranscriptModel
