pub mod ReplayAnswers
pub mod WholeLife
pub mod LifeLeft
pub mod Joined
pub mod FirstNames
pub mod Forgetting
pub mod HostRightly
pub mod FilesRightly
pub mod FilesWhole
pub mod SafelyTold
pub mod Replayed
pub mod LinesApart
pub use Rattle.text_works.proofs as TextWorks
