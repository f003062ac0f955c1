pub mod OnceLaws
mod FoundLaws
mod ShareLaws
pub mod ListLaws
pub mod ScopeLaws
pub mod TakeLaws
pub mod NameLaws
pub mod SayingLaws
pub mod CountLaws
pub mod ResultLaws
pub mod BlockLaws
pub mod StepLaws
pub mod ReadLaws
pub mod ManagedLaws
