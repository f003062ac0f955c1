pub mod Cuts
pub mod PartLaws
pub mod LineLaws
pub mod ArgumentLaws
pub mod ReadingLaws
pub mod WholeLaws
