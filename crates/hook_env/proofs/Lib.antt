pub mod FoundValues
pub mod ToldSteps
