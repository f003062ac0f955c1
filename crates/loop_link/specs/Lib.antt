pub mod Ports
pub mod Datagrams
pub mod Salts
pub mod Moments
pub mod Waiting
pub mod WireCalls
pub mod Waits
pub mod LinkNotes
