pub mod Draw
pub mod Moment
pub mod Since
