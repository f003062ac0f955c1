pub mod DuidLaws
pub mod Printing
pub mod ReadingLaws
