pub mod KeepingTurns
pub mod StoreRuns
