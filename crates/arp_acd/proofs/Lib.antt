pub mod Addresses
pub mod Runs
pub mod Standing
