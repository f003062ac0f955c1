pub mod Flags
pub mod Times
pub mod Dhcp4Settings
pub mod Dhcp6Settings
pub mod ResolverSettings
pub mod HookSettings
pub mod Fitting
pub mod ManagedRows
pub use Rattle.prefix_share.specs as PrefixShare
