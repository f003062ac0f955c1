mod Off6
pub mod Sane
pub mod Keeping
pub mod Turns
pub mod Rows
pub mod Based
pub mod ShareProofs
pub mod HostRests
pub mod Numbered
pub mod Foretold
pub mod Leasing
pub mod Lives
pub mod Items
pub mod EndingProofs
pub mod KeptOwnProofs
pub mod Starts
pub use Rattle.lease6_evidence.proofs.LeaseEvidence
