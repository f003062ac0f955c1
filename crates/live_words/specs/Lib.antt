pub mod LiveWords
pub mod LiveCommand
pub mod LiveReading
