pub mod Memory
pub mod Replays
pub mod HooksApart
pub mod Carried
pub mod Sound
pub mod HostHeld
pub mod FilesHeld
pub mod ToldSafely
pub mod Replaying
pub use Rattle.text_works.specs as TextWorks
