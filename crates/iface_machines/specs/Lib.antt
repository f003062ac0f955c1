pub mod Beginnings
pub mod CodeSets
pub mod Inputs
pub mod Outcomes
pub mod Shares
pub use Rattle.hook_env.specs as HookEnv
