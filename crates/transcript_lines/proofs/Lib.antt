mod EventLaws
mod LastLaws
pub mod LineLaws
mod NameLaws
