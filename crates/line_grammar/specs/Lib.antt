pub use Rattle.field_laws.specs as FieldLaws
