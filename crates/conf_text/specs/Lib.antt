pub mod Numbering
pub mod Places
pub mod Standings
pub mod Sayings
pub mod Faults
pub mod Configurations
pub mod Contents
pub mod Laws
pub mod Associations
pub mod Choosing
pub mod Shares
pub mod Settings
pub mod Steps
pub mod AssociationSteps
pub mod Fits
pub mod SharesTaken
pub use Rattle.conf_scopes.specs as ConfScopes
