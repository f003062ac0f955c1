pub mod Sharing
pub mod KeptShares
pub mod Laws
pub use Rattle.evidence.specs as Evidence
pub use Rattle.kept_judge.specs as KeptJudge
pub use Rattle.evidence.specs.LeaseEvidence
