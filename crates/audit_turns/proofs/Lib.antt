mod GoingLaws
pub use Rattle.audit_model.proofs as AuditModel
