pub mod Watching
pub mod Terms
pub mod Laws
pub mod HeardBasis
pub mod HeardTerms
pub mod HeardLaws
pub use Rattle.lease6_evidence.specs as Lease6Evidence
