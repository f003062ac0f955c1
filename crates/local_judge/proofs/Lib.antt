pub mod Calmness
pub mod ProbesTold
mod Moments
pub mod Announcing
mod ChoicesTold
mod AnnouncedOnly
mod Turns
pub mod SettledChoices
pub mod Telling
pub use Rattle.probe_table.proofs as ProbeTables
