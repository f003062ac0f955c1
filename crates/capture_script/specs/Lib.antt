pub mod Captures
pub mod PacketViews
pub mod CapturedScripts
