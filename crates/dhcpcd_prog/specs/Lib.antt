pub mod Questions
pub mod Telling
pub mod Named
pub mod Endings
