pub mod Spelled
pub mod InRange
pub mod Laws
pub mod Heard
