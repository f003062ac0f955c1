pub mod IfaceSteps
pub mod Messages
pub mod ClientSettings
pub mod ClientSettings6
pub mod LocalSteps
pub mod Dhcp4Steps
pub mod Dhcp6Steps
pub mod TextsByLine
pub mod KeptLeases
pub mod KeptLeases6
pub mod HostDuid
pub mod Interfaces
pub mod IfaceTurns
pub mod WantedRows
pub mod ResolverParts
pub mod Jobs
pub mod Clients
pub mod Runs
pub mod OwnInputs
pub mod KeptRows
pub mod Fitting
pub mod AskedOptions
pub use Rattle.v4_client.specs.ArpAcd
pub use Rattle.duid_text.specs as DuidText
pub use Rattle.frame_link.specs as FrameLink
pub use Rattle.host_model.specs as HostModel
pub use Rattle.ipv4ll.specs as Ipv4ll
pub use Rattle.v6_client.specs.Lease6Text
pub use Rattle.v4_client.specs.LeaseText
pub use Rattle.script_model.specs as ScriptModel
pub use Rattle.settings.specs as IfaceSettings
pub use Rattle.v4_client.specs as V4Client
pub use Rattle.v4_client.specs.V4Message
pub use Rattle.v6_client.specs as V6Client
pub use Rattle.v6_frames.specs as V6Frames
