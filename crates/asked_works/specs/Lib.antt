pub mod Words
pub mod MakeReading
pub mod ImportReading
pub mod Asked
