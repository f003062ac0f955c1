pub mod SinceTurns
pub mod ChainsTold
pub mod LeasesFound
pub mod LocalsFound
pub mod ItemsFound
pub mod BasesFound
mod ProbeSteps
