pub mod Fronts
pub mod WholeAreas
pub mod Entering
pub mod ReaderSteps
pub mod OptionTexts
pub mod OptionShapes
