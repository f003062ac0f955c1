pub mod DuidTexts
pub mod DuidReading
pub mod Laws
