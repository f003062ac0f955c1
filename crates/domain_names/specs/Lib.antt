pub mod DomainName
pub mod NameText
pub mod LabelSteps
pub mod CompressedName
pub mod CompressedSteps
pub mod SearchList
