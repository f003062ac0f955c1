pub mod Causing
pub mod Doing
