mod KeptValues
pub mod SoundSteps
pub mod SoundAnswers
pub mod SoundClients
pub mod SoundRuns
pub mod Foreign
pub mod Granted
pub mod Origins
pub mod Standing
pub mod Probed
pub mod Expiring
pub mod InTime
mod Room
pub use Rattle.arp_acd.proofs as ArpAcd
pub use Rattle.lease_text.proofs as LeaseText
