pub mod LinesMade
pub mod LivesSaid
pub mod Accounted
mod CourseLaws
pub use Rattle.row_reasons.proofs.Evidence
