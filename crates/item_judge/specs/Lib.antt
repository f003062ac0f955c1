pub mod Own
pub mod Asking
pub mod Kept
pub mod Tables
pub mod Walks
pub mod Telling
pub mod Turns
pub mod Judging
pub mod Replying
pub mod Hearing
pub use Rattle.lease6_evidence.specs as Lease6Evidence
pub use Rattle.lease6_judge.specs as Lease6Judge
