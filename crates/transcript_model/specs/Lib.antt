pub mod Told
pub mod LifeShapes
pub mod Transcripts
