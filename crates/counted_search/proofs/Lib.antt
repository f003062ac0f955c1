pub mod Edits
pub mod FirstKeys
pub mod Halving
pub mod Merges
