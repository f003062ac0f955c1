pub mod AddressesReach
pub mod FilesReach
pub mod GoingWell
pub mod InterfaceHeld
pub mod LocalHeld
pub mod OneLife
pub mod TurnsGoingWell
