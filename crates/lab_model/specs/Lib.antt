pub mod Labs
pub mod Exchanges
pub mod LabLines
