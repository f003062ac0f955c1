pub mod Firsts
pub mod MomentLaws
pub mod Tables
pub mod Takings
