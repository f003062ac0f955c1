pub mod Mirrors
pub mod Moments
pub mod Timers
