pub mod TypedLines
pub use Rattle.transcript_text.specs.ScriptModel
