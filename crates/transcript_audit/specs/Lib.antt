pub mod Verdicts
pub mod Saying
pub mod Laws
pub use Rattle.audit_follower.specs as AuditFollower
pub use Rattle.iface_judge.specs.Evidence
pub use Rattle.iface_judge.specs as IfaceJudges
pub use Rattle.iface_judge.specs.Lease6Judge
pub use Rattle.iface_judge.specs.AuditModel
pub use Rattle.iface_judge.specs.AuditSeats
pub use Rattle.audit_follower.specs.AuditSites
pub use Rattle.audit_follower.specs.AuditTurns
