pub mod Offered
pub use Rattle.lease_evidence.specs as LeaseEvidence
