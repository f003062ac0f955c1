pub mod Moments
pub mod Saying
pub mod Steps
pub mod Detection
pub mod Ticks
pub mod Due
pub mod Hearing
pub mod Inputs
pub mod Messages
pub mod Settings
pub mod Granting
pub mod Answers
pub mod Awaited
pub mod Clients
pub mod Moves
pub mod Calls
pub mod Rests
pub mod Sound
pub mod History
pub mod Laws
pub mod Origins
pub mod Probes
pub mod InTime
pub use Rattle.arp_acd.specs as ArpAcd
pub use Rattle.lease_text.specs as LeaseText
pub use Rattle.machine.specs as Machine
pub use Rattle.settings.specs as IfaceSettings
pub use Rattle.v4_frames.specs as V4Frames
pub use Rattle.v4_message.specs as V4Message
