pub mod Choices
pub mod Judge
pub mod Settled
pub mod Laws
pub use Rattle.local_evidence.specs as LocalEvidence
pub use Rattle.probe_table.specs as ProbeTables
