pub mod Parts
pub mod HostSteps
pub mod Hookings
pub mod BegunParts
