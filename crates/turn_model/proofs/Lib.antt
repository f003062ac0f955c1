pub mod HostRuns
pub mod Asking
pub mod Leaving
pub mod Loading
pub mod OwnLeases
pub mod Acting
pub mod HostInLifeTurns
pub mod HooksApart
pub mod FileNames
pub mod UnlikeNames
pub mod Bringing
pub mod Keeping
pub mod Reading
pub mod FilesInLifeTurns
pub mod FilesInOrder
pub use Rattle.client_model.proofs.ArpAcd
pub use Rattle.client_model.proofs as ClientModel
pub use Rattle.device_calls.proofs as DeviceCalls
pub use Rattle.machine.proofs as Machine
