pub mod Opened
pub mod TermTables
pub mod Walked
pub mod Parted
pub mod Turned
pub mod Giving
pub mod OwnWalks
mod Replied
mod HearingTold
pub use Rattle.lease6_judge.proofs as Lease6Judge
