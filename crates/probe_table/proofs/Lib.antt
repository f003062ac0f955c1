pub mod Requests
pub mod ProbeTargets
pub mod Entering
pub mod Leaving
pub mod Standing
pub mod Thrice
