pub mod FileWalks
pub mod Walking
pub mod Choosing
pub mod Given
