pub mod Prompt
pub mod Serving
pub mod FairTurns
pub mod LeaseHeld
pub mod LeaseStays
pub mod OneLife
