pub mod Numbering
pub mod TermsTold
pub mod Judging
pub mod ItemsRead
pub mod HeardTold
pub use Rattle.lease6_evidence.proofs.LeaseEvidence
