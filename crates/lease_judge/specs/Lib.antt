pub mod Judge
pub mod ProbedTurns
pub mod Leased
pub mod Laws
pub mod Watched
pub mod Probes
pub mod Turns
pub mod Answers
pub mod Numbers
pub use Rattle.local_judge.specs as LocalJudges
