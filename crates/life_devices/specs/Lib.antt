pub mod Answered
pub mod Waits
