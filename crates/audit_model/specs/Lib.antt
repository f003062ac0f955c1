pub mod Showing
pub mod Verdicts
pub mod Auditing
pub mod Laws
pub mod LivesTold
