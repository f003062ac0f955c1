pub mod Configured
pub use Rattle.evidence.proofs.LeaseEvidence
pub use Rattle.probe_table.proofs as ProbeTables
