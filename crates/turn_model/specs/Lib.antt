pub mod KeptFiles
pub mod Loading
pub mod OwnLeases
pub mod Hooking
pub mod Turns
pub mod Opening
pub mod Lives
pub mod LifeFronts
pub mod Foretold
pub mod HooksApart
pub mod HostInLife
pub mod FilesInLife
pub use Rattle.client_model.specs.ArpAcd
pub use Rattle.client_model.specs as ClientModel
pub use Rattle.device_calls.specs as DeviceCalls
pub use Rattle.client_model.specs.DuidText
pub use Rattle.client_model.specs.FrameLink
pub use Rattle.hook_child.specs as HookChild
pub use Rattle.client_model.specs.HostModel
pub use Rattle.client_model.specs.Ipv4ll
pub use Rattle.client_model.specs.Lease6Text
pub use Rattle.client_model.specs.LeaseText
pub use Rattle.machine.specs as Machine
pub use Rattle.client_model.specs.ScriptModel
pub use Rattle.client_model.specs.IfaceSettings
pub use Rattle.client_model.specs.V4Message
pub use Rattle.client_model.specs.V6Client
pub use Rattle.client_model.specs.V6Frames
