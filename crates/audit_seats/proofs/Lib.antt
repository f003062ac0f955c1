pub mod LoopLaws
mod TestLaws
mod SeatLaws
pub use Rattle.audit_turns.proofs.AuditModel
