pub mod Goings
pub mod Laws
pub use Rattle.audit_model.specs as AuditModel
pub use Rattle.audit_words.specs.EvidenceWords
pub use Rattle.audit_words.specs.TurnModel
