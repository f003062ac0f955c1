pub mod Left
pub mod Calls
pub mod Turns
pub mod Shown
pub mod Events4
pub mod Turns4
