mod OwnTests
pub use Rattle.lease_evidence.proofs as LeaseEvidence
