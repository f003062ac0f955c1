pub mod Lists
mod Left
mod Soon
mod AskingTold4
pub mod AskingTold6
mod Spoken
mod Told4
pub mod Judged4
pub mod Judged6
