mod HostShown
pub mod LinesRest
pub mod Widened
pub use Rattle.lease6_judge.proofs as Lease6Judge
