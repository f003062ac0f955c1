mod SayingLaws
mod TurnCounts
mod BadLines
mod JudgedTexts
mod OneVerdict
pub use Rattle.iface_judge.proofs.Evidence
pub use Rattle.iface_judge.proofs as IfaceJudges
pub use Rattle.iface_judge.proofs.KeptJudge
pub use Rattle.iface_judge.proofs.AuditModel
pub use Rattle.audit_follower.proofs.AuditSeats
