pub mod Schedules
pub mod LineReading
pub mod ScheduleReading
pub mod ScheduleContent
pub use Rattle.lab_peer.specs as LabPeer
