pub mod HeardShares
pub mod Joined
pub mod Telling
pub mod Laws
pub mod Among
pub use Rattle.audit_seats.specs.AuditModel
pub use Rattle.audit_seats.specs as AuditSeats
pub use Rattle.share_judge.specs.Evidence
pub use Rattle.item_judge.specs.Lease6Judge
