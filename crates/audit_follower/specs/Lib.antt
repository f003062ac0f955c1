pub mod Holding
pub use Rattle.audit_sites.specs as AuditSites
pub use Rattle.audit_turns.specs as AuditTurns
