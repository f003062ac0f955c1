pub mod HostTableRows
pub mod HostTableChanges
pub mod HostTableTurns
