pub mod AskFitting
pub mod HostDuids
mod AskedOptions
mod Apart
mod Elsewhere
mod OwnTurns
mod Keepers
pub mod HostTableWanted
pub mod SameInterfaces
mod SpelledTexts
pub mod KeptTexts
pub mod KeptTexts6
mod QuietLeases
pub mod QuietTurns
pub mod QuietKept
pub use Rattle.v4_client.proofs.ArpAcd
pub use Rattle.host_model.proofs as HostModel
