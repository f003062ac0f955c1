mod Fronts
pub use Rattle.field_laws.proofs as FieldLaws
