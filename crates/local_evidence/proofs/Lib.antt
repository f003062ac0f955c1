pub mod Addresses
pub mod Announced
pub mod Moves
pub mod Phases
pub mod Ticks
pub mod Weakening
mod Counting
mod Guards
