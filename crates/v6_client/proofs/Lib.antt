pub mod FewAsked
pub mod LeftFits
pub mod RowFacts
pub mod CallRuns
pub mod QuietSteps
pub mod SettingsStay
pub use Rattle.lease6_text.proofs as Lease6Text
pub use Rattle.v6_items.proofs as V6Items
