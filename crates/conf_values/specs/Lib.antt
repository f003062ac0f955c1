pub mod Words
pub mod Texts
pub mod Identifiers
pub mod Patterns
pub mod Nets
