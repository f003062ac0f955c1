pub mod Answers
pub mod Ones
pub mod Begins
pub mod Successes
