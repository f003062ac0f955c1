pub mod Texts
pub mod Reasons
pub mod Finding
pub mod Judging
pub mod ReasonLines
pub mod LifeHeld
pub use Rattle.transcript_audit.specs.Evidence
pub use Rattle.transcript_audit.specs as TranscriptAudit
pub use Rattle.transcript_audit.specs.AuditModel
pub use Rattle.transcript_audit.specs.AuditSites
pub use Rattle.transcript_audit.specs.AuditTurns
pub use Rattle.audit_words.specs.EvidenceWords
pub use Rattle.audit_words.specs as AuditWords
pub use Rattle.basis_turns.specs as BasisTurns
