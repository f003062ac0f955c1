pub mod FittingWorlds
pub mod Laws
pub use Rattle.safe_texts.specs as SafeTexts
