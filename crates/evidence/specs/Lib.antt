pub mod StaticBasis
pub mod ShareBasis
pub mod ShareNeeds
pub mod Laws
pub mod KeptOwn
pub mod HeldAddresses
pub mod SevenTurns
pub mod Endings
pub use Rattle.client_model.specs as ClientModel
pub use Rattle.lease6_evidence.specs as Lease6Evidence
pub use Rattle.lease6_evidence.specs.LeaseEvidence
pub use Rattle.local_evidence.specs as LocalEvidence
