pub mod RowLists
pub mod ExactRows
pub mod NameOrder
pub mod SoundStores
pub mod SoundCalls
pub mod SoundSteps
pub mod SoundRenames
pub mod SoundLaws
pub use Rattle.net_types.proofs as NetTypes
