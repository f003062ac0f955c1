pub mod Kinds
pub mod Replies
pub mod Shown
pub mod Requests
pub mod ReadBack
pub use Rattle.v6_options.specs as V6Options
