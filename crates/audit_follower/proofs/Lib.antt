mod ResultLaws
mod LineLaws
mod CourseLaws
mod AuditLaws
pub use Rattle.audit_seats.proofs as AuditSeats
