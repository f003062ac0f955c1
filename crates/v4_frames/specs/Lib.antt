pub mod Spelled
pub mod InRange
pub mod Laws
pub mod Heard
pub mod Ours
