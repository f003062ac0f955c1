pub mod Staying
pub mod Asking4
pub mod Asking6
pub mod Laws
