pub mod Laws
pub use Rattle.evidence.specs as Evidence
