pub mod Concern
pub mod Tests
pub mod Seats
pub use Rattle.audit_turns.specs.AuditModel
pub use Rattle.audit_turns.specs.TurnModel
