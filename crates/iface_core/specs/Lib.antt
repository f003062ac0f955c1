pub mod Looks
pub use Rattle.iface_machines.specs.Beginnings
pub use Rattle.iface_machines.specs as IfaceMachines
pub use Rattle.iface_machines.specs.Inputs
pub use Rattle.iface_machines.specs.Outcomes
pub use Rattle.iface_machines.specs.Shares
