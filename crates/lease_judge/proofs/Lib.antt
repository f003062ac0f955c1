pub mod AsObserver
pub mod GrantsTold
pub mod Judging
pub mod ProbedTold
pub mod LeasesTold
mod ShownMessages
mod TurnsTold
mod ProbesHeld
mod AnswersTold
mod NumbersTold
mod SettledProbes
pub use Rattle.local_judge.proofs as LocalJudges
