pub mod Givings
pub mod Reasoned
pub mod TurnLaws
mod RowLaws
pub use Rattle.transcript_audit.proofs.Evidence
pub use Rattle.transcript_audit.proofs.IfaceJudges
pub use Rattle.transcript_audit.proofs.AuditModel
