pub mod ClientFrames
pub mod Pools
pub mod Bindings
pub mod Hearing
pub mod Granting
pub mod Laws
