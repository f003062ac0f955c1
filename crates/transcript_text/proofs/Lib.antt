mod CarrierSteps
mod EventReads
mod FieldReads
mod FormLaws
mod Holding
mod LineReads
pub mod LinesLaws
mod NetTexts
mod ShapeLaws
mod UpLaws
pub use Rattle.net_types.proofs as NetTypes
