pub mod Hosts
pub mod Reads
pub mod Openings
