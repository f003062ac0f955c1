pub mod Staying
pub mod Carriers
pub use Rattle.iface_machines.proofs.Following
pub use Rattle.iface_machines.proofs.ShareAddresses
