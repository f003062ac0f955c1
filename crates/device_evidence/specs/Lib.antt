pub mod Stretches
pub mod HostHeld
pub mod FilesHeld
