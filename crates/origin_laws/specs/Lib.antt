pub mod Granted6
pub mod Origins6
pub mod Origins4
