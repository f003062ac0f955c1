pub mod Entries
pub mod Inputs
pub mod HostDuids
pub mod FiledLeases
pub mod IfaceLives
pub mod Probed
pub use Rattle.turn_model.specs.ClientModel
pub use Rattle.turn_model.specs.DeviceCalls
pub use Rattle.turn_model.specs.DuidText
pub use Rattle.turn_model.specs.Ipv4ll
pub use Rattle.turn_model.specs.Lease6Text
pub use Rattle.turn_model.specs as TurnModel
pub use Rattle.turn_model.specs.V6Client
pub use Rattle.turn_model.specs.V6Frames
