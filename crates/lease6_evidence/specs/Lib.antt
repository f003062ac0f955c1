pub mod OwnMessages6
pub mod Exchanges6
pub mod Replies6
pub mod OwnFrames6
pub mod ItemBasis
pub mod KeptBasis6
pub mod HeldItems
pub mod Laws6
pub mod Ends6
pub mod KeptNeeds6
pub mod Wanting6
pub mod FourMessages
pub use Rattle.lease_evidence.specs.EvidenceWords
pub use Rattle.lease_evidence.specs as LeaseEvidence
pub use Rattle.v6_client_laws.specs as V6ClientLaws
