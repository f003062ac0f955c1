pub mod Shown
pub use Rattle.evidence_words.specs as EvidenceWords
pub use Rattle.settings.specs as IfaceSettings
pub use Rattle.evidence_words.specs.TurnModel
