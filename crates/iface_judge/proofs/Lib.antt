pub mod Owning
pub mod SharesTold
pub mod Among
mod KeptTurns
mod ShareLoops
mod IdleTurns
mod IdleJudges
mod AlikeTurns
mod Staying
pub use Rattle.audit_seats.proofs.AuditModel
pub use Rattle.share_judge.proofs.Evidence
pub use Rattle.share_judge.proofs.KeptJudge
