pub mod Acquiring
pub mod ClientTurns
pub mod GoingWell
pub mod InterfaceHolds
pub mod InterfaceTurns
pub mod OneLife
pub mod Questions
pub mod Staying
