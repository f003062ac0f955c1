pub mod Labels
pub mod NameBytes
pub mod Pieces
pub mod Reading
pub mod Names
pub mod SearchNames
