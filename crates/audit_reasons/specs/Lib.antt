pub mod Explaining
pub mod Holding
pub mod Accounts
pub mod Saying
pub use Rattle.row_reasons.specs.Texts
pub use Rattle.row_reasons.specs as RowReasons
pub use Rattle.row_reasons.specs.Evidence
pub use Rattle.row_reasons.specs.TranscriptAudit
