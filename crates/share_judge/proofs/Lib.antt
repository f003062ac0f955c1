pub mod Told
pub mod KeptTold
pub use Rattle.evidence.proofs as Evidence
pub use Rattle.kept_judge.proofs as KeptJudge
