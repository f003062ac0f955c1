pub mod Judge
pub use Rattle.evidence.specs as Evidence
pub use Rattle.evidence.specs.LeaseEvidence
pub use Rattle.evidence.specs.LocalEvidence
pub use Rattle.probe_table.specs as ProbeTables
