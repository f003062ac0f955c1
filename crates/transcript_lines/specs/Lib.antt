pub mod Names
pub mod Bounds
pub mod Contents
pub mod LineKinds
pub mod LineReading
pub mod LineSpellings
pub mod Roles
pub mod TurnFields
pub use Rattle.transcript_text.specs as TranscriptText
