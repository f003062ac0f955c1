pub mod Printings
pub mod Programs
pub mod HostWalking
pub mod Doing
pub mod Running
pub mod Begun
