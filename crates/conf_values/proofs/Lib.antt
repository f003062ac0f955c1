pub mod Views
pub mod FoundLaws
pub mod TextLaws
