pub mod Names
pub mod Contents
pub mod Codes
pub mod Shares
pub mod Statics
pub mod Says
pub mod SayLaws
pub use Rattle.conf_values.specs as ConfValues
