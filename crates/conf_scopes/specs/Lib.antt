pub mod Values
pub mod Flags
pub mod Times
pub mod Scopes
pub mod Limits
pub mod ScopeSteps
pub mod ScopeContents
